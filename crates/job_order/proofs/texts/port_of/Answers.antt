use Rattle.std.proofs.Common.{◌≡◌, ◌<◌, length, get_or, arith, ap, sym, ◌∙◌}
use Rattle.job_order.proofs.Ports.{no_port_empty, no_port_plus, no_port_zero, port_parses, parsed_port}
use Rattle.job_order.proofs.texts.port_of.Goals as goal

pub returns-then-bytes-eq0 : goal.returns-then-bytes-eq0
returns-then-bytes-eq0 c = no_port_empty c.args.text.now (ap length (sym c.as_bytes-bytes.ensures.value) ∙ c.if-bytes-eq0.true)

pub returns-then-bytes-eq43 : goal.returns-then-bytes-eq43
returns-then-bytes-eq43 c = no_port_plus c.args.text.now (ap (λ t. get_or t 0 0) (sym c.as_bytes-bytes.ensures.value) ∙ c.if-bytes-eq43.true)

pub returns-then-bytes-eq48 : goal.returns-then-bytes-eq48
returns-then-bytes-eq48 c = no_port_zero c.args.text.now (ap (λ t. get_or t 0 0) (sym c.as_bytes-bytes.ensures.value) ∙ c.if-bytes-eq48.true)

pub returns-in-Ok : goal.returns-in-Ok
returns-in-Ok c =
    let text = c.args.text.now in
    let first : get_or c.as_bytes-bytes.result.now 0 0 ≡ get_or text 0 0 = ap (λ t. get_or t 0 0) c.as_bytes-bytes.ensures.value in
    let some : 0 < length text = omega (arith, ap length c.as_bytes-bytes.ensures.value) in
    parsed_port text c.in-Ok.port c.parse.result c.in-Ok.is c.parse.ensures.value.0 some (λ e. c.if-bytes-eq43.false (first ∙ e)) (λ e. c.if-bytes-eq48.false (first ∙ e))

pub returns-in-Err : goal.returns-in-Err
returns-in-Err c n low high is =
    let parsed = port_parses c.args.text.now c.parse.result c.parse.ensures.value.0 n high is in
    let other = c.in-Err.is in
    cc
