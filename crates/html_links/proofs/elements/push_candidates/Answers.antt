use Rattle.std.proofs.Common.{rules, ◌≡◌, ◌<◌, length}
use Rattle.html_links.proofs.Roles.{candidates-more, candidates-end}
use Rattle.html_links.proofs.elements.push_candidates.Goals as goal

pub loop-rest-preserved : goal.loop-rest-preserved
loop-rest-preserved c =
    let some : 0 < length c.loop-rest.rest.now = search rules in
    rw (c.in_ok-push_first_word.ensures, c.up_to.ensures, c.from-rest.ensures) (candidates-more c.loop-rest.refs _ c.loop-rest.rest.now c.first_of-part.result some c.first_of-part.ensures.place c.loop-rest.invariant)

pub returns : goal.returns
returns c =
    let none : length c.loop-rest.rest.now ≡ 0 = search rules in
    candidates-end c.loop-rest.refs _ c.loop-rest.rest.now none c.loop-rest.invariant
