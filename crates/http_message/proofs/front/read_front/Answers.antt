use Rattle.std.proofs.Common.{◌≡◌, ◌<◌, ◌≤◌, ◌+◌, ℕ, Some, length, arith, ap, ◌∙◌, sym, subst}
use Rattle.httparse.specs.Grammar.{print_response, status_code}
use Rattle.page_spec.specs.Fields.{announced}
use Rattle.page_spec.specs.Response.{fields_of}
use Rattle.http_message.specs.Reading.{Expects as IsExpected}
use Rattle.http_message.specs.declared.front.Front.{Front}
use Rattle.http_message.specs.declared.front.Front.TheVariants.{Expects, Never, Partial}
use Rattle.http_message.proofs.Heads.{long_body_never, uncounted_never, expected}
use Rattle.http_message.proofs.front.read_front.Goals.{then-head-limit-via-then-head-limit, then-head-limit-via-else-head-limit+then-body-limit}
use Rattle.http_message.proofs.front.read_front.Goals as goal

abbrev total_in : Front → ℕ
total_in (Expects total) = total
total_in Never = 0
total_in Partial = 0

pub returns-in_default-clause-never : goal.returns-in_default-clause-never
returns-in_default-clause-never c = λ same.
    let read = c.in-Ok.ensures.ok in
    uncounted_never c.args.limit c.args.bytes.now _ read.0 read.1.at.reads (sym read.1.body ∙ c.in_default.is)

pub returns-then-head-limit-clause-never : goal.returns-then-head-limit-clause-never
returns-then-head-limit-clause-never c = λ same.
    let read = c.in-Ok.ensures.ok in
    let h = read.0 in
    let counted : announced (status_code h) (fields_of h) ≡ Some c.in-Some.body = sym read.1.body ∙ c.in-Some.is in
    let long : c.args.limit < length (print_response h) + c.in-Some.body =
    elim c.then-head-limit.branch [
      | then-head-limit-via-then-head-limit w ↦ omega (arith, w.if-head-limit.true, read.1.len)
      | then-head-limit-via-else-head-limit+then-body-limit w ↦ omega (arith, w.if-head-limit.false, w.if-body-limit.true, read.1.len)
    ] in
    long_body_never c.args.limit c.in-Some.body c.args.bytes.now _ h read.1.at.reads counted long

pub returns-clause-expects : goal.returns-clause-expects
returns-clause-expects c = λ total same.
    let read = c.in-Ok.ensures.ok in
    let h = read.0 in
    let counted : announced (status_code h) (fields_of h) ≡ Some c.in-Some.body = sym read.1.body ∙ c.in-Some.is in
    let within : length (print_response h) + c.in-Some.body ≤ c.args.limit = omega (arith, c.if-head-limit.false, c.if-body-limit.false, read.1.len) in
    let whole = expected c.args.limit c.in-Some.body c.args.bytes.now _ h read.1.at counted within in
    let sum : length (print_response h) + c.in-Some.body ≡ total = ap (λ n. n + c.in-Some.body) (sym read.1.len) ∙ ap total_in same in
    subst (IsExpected c.args.limit c.args.bytes.now) sum whole
