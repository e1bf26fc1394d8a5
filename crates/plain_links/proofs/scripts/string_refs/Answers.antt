use Rattle.std.proofs.Common.{rules, ◌≡◌, ◌<◌, length}
use Rattle.link_spec.specs.Scripts.{string_use}
use Rattle.link_spec.specs.Reading.{piece_of}
use Rattle.plain_links.proofs.Steps.{one-more, none-here, at-end}
use Rattle.plain_links.proofs.scripts.string_refs.Goals as goal

pub loop-rest-preserved-in-Some : goal.loop-rest-preserved-in-Some
loop-rest-preserved-in-Some c =
    let some : 0 < length c.loop-rest.rest.now = search rules in
    rw (c.in_ok-push-in-Some.ensures.ok, c.in_ok-reference-in-Some.ensures, c.from-rest.ensures) (one-more 88 string_use c.loop-rest.refs _ c.loop-rest.rest.now (piece_of c.in-Some.found) some c.in-Some.ensures.some c.in-Some.ensures.found c.loop-rest.invariant)

pub loop-rest-preserved : goal.loop-rest-preserved
loop-rest-preserved c =
    let some : 0 < length c.loop-rest.rest.now = search rules in
    rw c.from-rest-in-None.ensures (none-here 88 string_use c.loop-rest.refs _ c.loop-rest.rest.now some c.in-None.ensures.found c.loop-rest.invariant)

pub returns : goal.returns
returns c =
    let none : length c.loop-rest.rest.now ≡ 0 = search rules in
    at-end 88 string_use c.loop-rest.refs _ c.loop-rest.rest.now none c.loop-rest.invariant
