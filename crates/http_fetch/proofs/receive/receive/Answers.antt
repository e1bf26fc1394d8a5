use Rattle.std.proofs.Common.{◌≡◌, ◌∙◌, ◌<◌, ◌≤◌, ℕ, false, List, [], ◌++◌, length, take, drop, Option, Some, None, IfSome, is_none, inl, inr, ap, sym, subst, refl, arith, append-nil}
use Rattle.std.proofs.lemmas.List.{take-append-drop, take_all, length-take-le}
use Rattle.std.proofs.Math.Seq.{take-append_seam}
use Rattle.crawl_traits.specs.Exchanges.{giving, with_last}
use Rattle.http_message.specs.Reading.{Expects as IsExpected}
use Rattle.page_spec.specs.Response.{BeginsWith, BeginsWhole, IsWhole}
use Rattle.http_fetch.specs.Reading.{Decides, Fills, Reads}
use Rattle.http_fetch.proofs.Last.{given_nothing, take-take}
use Rattle.http_fetch.proofs.receive.receive.Goals as goal

-- a vector whose whole slice was written holds what was written
written : (len : ℕ) (new items : List ℕ) → length new ≡ len → take len (new ++ drop (length new) items) ≡ new
written len new items same = ap (λ (k : ℕ). take k (new ++ drop (length new) items)) (sym same) ∙ take-append_seam new (drop (length new) items)

-- the whole response with which the bytes that came begin
came_whole : (limit total filled : ℕ) (buffer : List ℕ) → IsExpected limit (take filled buffer) total → total ≤ filled → filled ≤ length buffer
    → BeginsWith limit (take filled buffer) (take total buffer)
came_whole limit total filled buffer expected le within =
    let given : List ℕ = take filled buffer in
    let enough : total ≤ length given = omega (arith, le, length-take-le filled buffer within) in
    let begins : BeginsWith limit given (take total given) =
    subst (λ (x : List ℕ). total ≤ length x → BeginsWith limit x (take total x)) (append-nil given) (expected.whole []) enough in
    subst (λ (b : List ℕ). BeginsWith limit given b) (take-take total filled buffer le) begins

-- and that there is none, where fewer bytes came
came_short : (limit total filled : ℕ) (buffer : List ℕ) → IsExpected limit (take filled buffer) total → filled < total → filled ≤ length buffer
    → ¬ (BeginsWhole limit (take filled buffer))
came_short limit total filled buffer expected lt within =
    let given : List ℕ = take filled buffer in
    let fewer : length given < total = omega (arith, lt, length-take-le filled buffer within) in
    subst (λ (x : List ℕ). length x < total → ¬ (BeginsWhole limit x)) (append-nil given) (expected.short []) fewer

-- what goes on from a front begins with the whole response that the front lets expect, or with none
filled_reads : (limit total : ℕ) (front given : List ℕ) (block : Option (List ℕ)) → IsExpected limit front total → Fills front total given block
    → Reads limit given (is_none block) block
filled_reads limit total front given (Some block) expected fills =
    let more : List ℕ = drop (length front) given in
    let on : front ++ more ≡ given = ap (λ (x : List ℕ). x ++ more) (sym fills.2) ∙ take-append-drop (length front) given in
    let long : length given ≡ total = ap length fills.0 ∙ fills.1 in
    let begins : BeginsWith limit given (take total given) =
    subst (λ (x : List ℕ). total ≤ length x → BeginsWith limit x (take total x)) on (expected.whole more) (omega (arith, long)) in
    subst (λ (b : List ℕ). BeginsWith limit given b) (take_all total given (omega (arith, long)) ∙ fills.0) begins
filled_reads limit total front given None expected fills =
    let more : List ℕ = drop (length front) given in
    let on : front ++ more ≡ given = ap (λ (x : List ℕ). x ++ more) (sym fills.1) ∙ take-append-drop (length front) given in
    inr (refl, subst (λ (x : List ℕ). length x < total → ¬ (BeginsWhole limit x)) on (expected.short more) fills.0)

reads_whole : (limit : ℕ) (given : List ℕ) (block : Option (List ℕ)) → Reads limit given (is_none block) block → IfSome block (IsWhole limit)
reads_whole limit given (Some block) reads = reads.2
reads_whole limit given None reads = tt

pub returns-in_default-clause-err : goal.returns-in_default-clause-err
returns-in_default-clause-err g c = λ told. ([], sym (given_nothing (g.L.Link.exchanges c.args.link.now)))

pub returns-in-Err-clause-err : goal.returns-in-Err-clause-err
returns-in-Err-clause-err g c = λ told. c.in-Err.ensures.err told

pub returns-in-Never-clause-given : goal.returns-in-Never-clause-given
returns-in-Never-clause-given g c = λ told.
    let came = c.in-Ok-read_start.came in
    let given : List ℕ = take came.filled c.read_start.new.buffer in (
      given,
      came.ended,
      c.in-Ok-read_start.ensures.given told,
      inl (subst (Decides c.args.limit given came.ended) c.in-Never.is c.in-Ok-read_start.ensures.decides),
    )

pub returns-in-Partial-clause-given : goal.returns-in-Partial-clause-given
returns-in-Partial-clause-given g c = λ told.
    let came = c.in-Ok-read_start.came in
    let given : List ℕ = take came.filled c.read_start.new.buffer in (
      given,
      came.ended,
      c.in-Ok-read_start.ensures.given told,
      inr (subst (Decides c.args.limit given came.ended) c.in-Partial.is c.in-Ok-read_start.ensures.decides),
    )

pub returns-then-total-came-clause-given : goal.returns-then-total-came-clause-given
returns-then-total-came-clause-given g c = λ told.
    let came = c.in-Ok-read_start.came in
    let buffer : List ℕ = c.read_start.new.buffer in
    let given : List ℕ = take came.filled buffer in
    let total : ℕ = c.in-Expects.total in
    let expected : IsExpected c.args.limit given total =
    subst (Decides c.args.limit given came.ended) c.in-Expects.is c.in-Ok-read_start.ensures.decides in
    let held : take c.in-Ok.buffer.len (buffer ++ drop (length buffer) c.in-Ok.buffer.items) ≡ buffer =
    written c.in-Ok.buffer.len buffer c.in-Ok.buffer.items (c.read_start.auto.buffer ∙ c.as_mut_slice.ensures.len) in
    let block : take total buffer ≡ c.from.result = sym (c.from.ensures ∙ c.truncate.ensures.items ∙ ap (take total) held) in (
      given,
      came.ended,
      c.in-Ok-read_start.ensures.given told,
      subst (λ (b : List ℕ). BeginsWith c.args.limit given b) block
          (came_whole c.args.limit total came.filled buffer expected c.if-total-came.true c.in-Ok-read_start.ensures.within),
    )

pub returns-then-total-came-clause-whole : goal.returns-then-total-came-clause-whole
returns-then-total-came-clause-whole g c =
    let came = c.in-Ok-read_start.came in
    let buffer : List ℕ = c.read_start.new.buffer in
    let given : List ℕ = take came.filled buffer in
    let total : ℕ = c.in-Expects.total in
    let expected : IsExpected c.args.limit given total =
    subst (Decides c.args.limit given came.ended) c.in-Expects.is c.in-Ok-read_start.ensures.decides in
    let held : take c.in-Ok.buffer.len (buffer ++ drop (length buffer) c.in-Ok.buffer.items) ≡ buffer =
    written c.in-Ok.buffer.len buffer c.in-Ok.buffer.items (c.read_start.auto.buffer ∙ c.as_mut_slice.ensures.len) in
    let block : take total buffer ≡ c.from.result = sym (c.from.ensures ∙ c.truncate.ensures.items ∙ ap (take total) held) in
    subst (IsWhole c.args.limit) block
    (came_whole c.args.limit total came.filled buffer expected c.if-total-came.true c.in-Ok-read_start.ensures.within).2

pub returns-then-came-clause-given : goal.returns-then-came-clause-given
returns-then-came-clause-given g c = λ told.
    let came = c.in-Ok-read_start.came in
    let buffer : List ℕ = c.read_start.new.buffer in
    let given : List ℕ = take came.filled buffer in
    let total : ℕ = c.in-Expects.total in
    let expected : IsExpected c.args.limit given total =
    subst (Decides c.args.limit given came.ended) c.in-Expects.is c.in-Ok-read_start.ensures.decides in
    let fewer : came.filled < total = omega (arith, c.if-total-came.false) in (
      given,
      came.ended,
      c.in-Ok-read_start.ensures.given told,
      inr (c.if-came.true, came_short c.args.limit total came.filled buffer expected fewer c.in-Ok-read_start.ensures.within),
    )

pub returns-in-Err-receive_rest-clause-err : goal.returns-in-Err-receive_rest-clause-err
returns-in-Err-receive_rest-clause-err g c = λ told.
    let came = c.in-Ok-read_start.came in
    let buffer : List ℕ = c.read_start.new.buffer in
    let lent : List ℕ = c.deref.result.now in
    let held : take c.in-Ok.buffer.len (buffer ++ drop (length buffer) c.in-Ok.buffer.items) ≡ buffer =
    written c.in-Ok.buffer.len buffer c.in-Ok.buffer.items (c.read_start.auto.buffer ∙ c.as_mut_slice.ensures.len) in
    let same : lent ≡ buffer = c.deref.ensures.value ∙ held in
    let xs = g.L.Link.exchanges c.args.link.now in
    c.in-Err-receive_rest.ensures.err (c.in-Ok-read_start.ensures.tells ∙ told) xs
    (c.in-Ok-read_start.ensures.given told
    ∙ ap (λ b. with_last (giving (take came.filled buffer) b) xs) c.if-came.false
    ∙ ap (λ (x : List ℕ). with_last (giving (take came.filled x) false) xs) (sym same))

pub returns-in-Err-receive_rest-clause-connected : goal.returns-in-Err-receive_rest-clause-connected
returns-in-Err-receive_rest-clause-connected g c = λ told.
    c.in-Err-receive_rest.ensures.connected (c.in-Ok-read_start.ensures.tells ∙ told) ∙ c.in-Ok-read_start.ensures.connected told

pub returns-in-Err-receive_rest-clause-later : goal.returns-in-Err-receive_rest-clause-later
returns-in-Err-receive_rest-clause-later g c = λ fault.
    omega (arith, c.in-Err-receive_rest.ensures.later fault, c.in-Ok-read_start.ensures.cause.later fault)

pub returns-in-Err-receive_rest-clause-failed : goal.returns-in-Err-receive_rest-clause-failed
returns-in-Err-receive_rest-clause-failed g c = λ fault is.
    omega (arith, c.in-Err-receive_rest.ensures.failed fault is, c.in-Ok-read_start.ensures.cause.later fault)

pub returns-clause-given : goal.returns-clause-given
returns-clause-given g c = λ told.
    let came = c.in-Ok-read_start.came in
    let buffer : List ℕ = c.read_start.new.buffer in
    let lent : List ℕ = c.deref.result.now in
    let held : take c.in-Ok.buffer.len (buffer ++ drop (length buffer) c.in-Ok.buffer.items) ≡ buffer =
    written c.in-Ok.buffer.len buffer c.in-Ok.buffer.items (c.read_start.auto.buffer ∙ c.as_mut_slice.ensures.len) in
    let same : lent ≡ buffer = c.deref.ensures.value ∙ held in
    let total : ℕ = c.in-Expects.total in
    let xs = g.L.Link.exchanges c.args.link.now in
    let expected : IsExpected c.args.limit (take came.filled buffer) total =
    subst (Decides c.args.limit (take came.filled buffer) came.ended) c.in-Expects.is c.in-Ok-read_start.ensures.decides in
    let of_front : IsExpected c.args.limit (take came.filled lent) total =
    subst (λ (x : List ℕ). IsExpected c.args.limit (take came.filled x) total) (sym same) expected in
    let r = c.in-Ok-receive_rest.ensures.given (c.in-Ok-read_start.ensures.tells ∙ told) xs
    (c.in-Ok-read_start.ensures.given told
    ∙ ap (λ b. with_last (giving (take came.filled buffer) b) xs) c.if-came.false
    ∙ ap (λ (x : List ℕ). with_last (giving (take came.filled x) false) xs) (sym same)) in (
      r.0,
      is_none c.in-Ok-receive_rest.block,
      r.1,
      filled_reads c.args.limit total (take came.filled lent) r.0 c.in-Ok-receive_rest.block of_front r.2,
    )

pub returns-clause-whole : goal.returns-clause-whole
returns-clause-whole g c =
    let came = c.in-Ok-read_start.came in
    let buffer : List ℕ = c.read_start.new.buffer in
    let lent : List ℕ = c.deref.result.now in
    let held : take c.in-Ok.buffer.len (buffer ++ drop (length buffer) c.in-Ok.buffer.items) ≡ buffer =
    written c.in-Ok.buffer.len buffer c.in-Ok.buffer.items (c.read_start.auto.buffer ∙ c.as_mut_slice.ensures.len) in
    let same : lent ≡ buffer = c.deref.ensures.value ∙ held in
    let total : ℕ = c.in-Expects.total in
    let expected : IsExpected c.args.limit (take came.filled buffer) total =
    subst (Decides c.args.limit (take came.filled buffer) came.ended) c.in-Expects.is c.in-Ok-read_start.ensures.decides in
    let of_front : IsExpected c.args.limit (take came.filled lent) total =
    subst (λ (x : List ℕ). IsExpected c.args.limit (take came.filled x) total) (sym same) expected in
    let r = c.in-Ok-receive_rest.ensures.fills in
    reads_whole c.args.limit r.0 c.in-Ok-receive_rest.block
    (filled_reads c.args.limit total (take came.filled lent) r.0 c.in-Ok-receive_rest.block of_front r.1)

pub returns-clause-connected : goal.returns-clause-connected
returns-clause-connected g c = λ told.
    c.in-Ok-receive_rest.ensures.connected (c.in-Ok-read_start.ensures.tells ∙ told) ∙ c.in-Ok-read_start.ensures.connected told

pub returns-clause-tells : goal.returns-clause-tells
returns-clause-tells g c = c.in-Ok-receive_rest.ensures.tells ∙ c.in-Ok-read_start.ensures.tells

pub returns-clause-later : goal.returns-clause-later
returns-clause-later g c = λ fault.
    omega (arith, c.in-Ok-receive_rest.ensures.later fault, c.in-Ok-read_start.ensures.cause.later fault)
