use Rattle.std.proofs.Common.{rules, ◌≡◌, ◌<◌, length}
use Rattle.html_links.specs.Reading.{entity_piece}
use Rattle.html_links.proofs.Symbols.{decoded-entity, decoded-byte, decoded-end}
use Rattle.html_links.proofs.entities.decoded.Goals as goal

pub loop-rest-preserved-in-Some : goal.loop-rest-preserved-in-Some
loop-rest-preserved-in-Some c =
    let some : 0 < length c.loop-rest.rest.now = search rules in
    rw (c.in_ok-push_character-in-Some.ensures, c.from-rest.ensures) (decoded-entity c.loop-rest.own.items _ c.loop-rest.rest.now (entity_piece c.in-Some.found) some c.in-Some.ensures.some c.in-Some.ensures.found c.loop-rest.invariant)

pub loop-rest-preserved : goal.loop-rest-preserved
loop-rest-preserved c =
    let some : 0 < length c.loop-rest.rest.now = search rules in
    rw (c.in_ok-push-in-None.ensures.items, c.from-rest-in-None.ensures) (decoded-byte c.loop-rest.own.items _ c.loop-rest.rest.now some c.in-None.ensures.found c.loop-rest.invariant)

pub returns : goal.returns
returns c =
    let none : length c.loop-rest.rest.now ≡ 0 = search rules in
    decoded-end c.loop-rest.own.items _ c.loop-rest.rest.now none c.loop-rest.invariant
