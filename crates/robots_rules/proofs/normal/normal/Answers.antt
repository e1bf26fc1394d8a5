use Rattle.std.proofs.Common.{rules, ◌<◌, length, sym, append_assoc}
use Rattle.robots_rules.proofs.NormalSteps.{normal-escape, normal-octet}
use Rattle.robots_rules.proofs.normal.normal.Goals as goal

pub loop-rest-preserved-in-Some : goal.loop-rest-preserved-in-Some
loop-rest-preserved-in-Some c =
    let more = normal-escape c.loop-rest.rest.now c.in-Some.octet (sym c.in-Some.ensures) in
    rw (c.in_ok-push_escaped-in-Some.ensures, c.from-rest.ensures, append_assoc, ← more) c.loop-rest.invariant

pub loop-rest-preserved : goal.loop-rest-preserved
loop-rest-preserved c =
    let some : 0 < length c.loop-rest.rest.now = search rules in
    let more = normal-octet c.loop-rest.rest.now some (sym c.in-None.ensures) in
    rw (c.in_ok-push_octet-in-None.ensures, c.from-rest-in-None.ensures, append_assoc, ← more) c.loop-rest.invariant
