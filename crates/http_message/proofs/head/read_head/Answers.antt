use Rattle.std.proofs.Common.{arith, ◌<◌, length}
use Rattle.httparse.specs.Grammar.{print_response, HasNoResponse}
use Rattle.page_spec.specs.Response.{most_head}
use Rattle.http_message.proofs.Heads.{long_never, full_never}
use Rattle.http_message.proofs.head.read_head.Goals as goal

pub returns-then-found-gt-MOST_HEAD-clause-not_http : goal.returns-then-found-gt-MOST_HEAD-clause-not_http
returns-then-found-gt-MOST_HEAD-clause-not_http c = λ same.
    let read = rw c.in-Ok-Complete.field-0-is at c.in-Ok-Complete.ensures.complete in
    let long : most_head < length (print_response read.0) = omega (arith, read.1.len, c.if-found-gt-MOST_HEAD.true) in
    long_never c.args.bytes.now _ read.0 read.1.reads long

pub returns-else-bytes-lt-MOST_HEAD-clause-not_http : goal.returns-else-bytes-lt-MOST_HEAD-clause-not_http
returns-else-bytes-lt-MOST_HEAD-clause-not_http c = λ same.
    let none : HasNoResponse c.args.bytes.now = rw c.in-Ok-Partial.field-0-is at c.in-Ok-Partial.ensures.partial in
    full_never c.args.bytes.now none c.if-bytes-lt-MOST_HEAD.false
