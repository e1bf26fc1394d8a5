use Rattle.std.proofs.Common.{rules, ◌≡◌, ◌<◌, ◌++◌, length, drop}
use Rattle.link_spec.specs.Segments.{start_tags}
use Rattle.html_links.specs.Cutting.{tags_in}
use Rattle.html_links.proofs.Pages.{tags-more, refs-more, base-more, refs-end, base-end}
use Rattle.html_links.proofs.page.html_refs.Goals as goal

pub loop-rest-preserved-in_ok-take : goal.loop-rest-preserved-in_ok-take
loop-rest-preserved-in_ok-take c =
    let rest = c.loop-rest.rest.now in
    let some : 0 < length rest = search rules in
    let found = c.in_ok-found.found in
    let both : start_tags rest ≡ tags_in found.tag ++ start_tags (drop found.size rest) = tags-more rest found.size (tags_in found.tag) some c.in_ok-found.ensures.some c.in_ok-found.ensures.size c.in_ok-found.ensures.tag in
    record {
      refs = rw (c.in_ok-take.ensures.refs, c.from-rest.ensures) (refs-more c.loop-rest.page.refs _ (tags_in found.tag) (start_tags (drop found.size rest)) (start_tags rest) both c.loop-rest.invariant.refs);
      base = rw (c.in_ok-take.ensures.base, c.from-rest.ensures) (base-more c.loop-rest.page.base _ (tags_in found.tag) (start_tags (drop found.size rest)) (start_tags rest) both c.loop-rest.invariant.base);
    }

pub loop-rest-preserved : goal.loop-rest-preserved
loop-rest-preserved c =
    let rest = c.loop-rest.rest.now in
    let some : 0 < length rest = search rules in
    let found = c.in_ok-found.found in
    let both : start_tags rest ≡ tags_in found.tag ++ start_tags (drop found.size rest) = tags-more rest found.size (tags_in found.tag) some c.in_ok-found.ensures.some c.in_ok-found.ensures.size c.in_ok-found.ensures.tag in
    record {
      refs = rw (c.in_ok-take.ensures.refs, c.from-rest.ensures) (refs-more c.loop-rest.page.refs _ (tags_in found.tag) (start_tags (drop found.size rest)) (start_tags rest) both c.loop-rest.invariant.refs);
      base = rw (c.in_ok-take.ensures.base, c.from-rest.ensures) (base-more c.loop-rest.page.base _ (tags_in found.tag) (start_tags (drop found.size rest)) (start_tags rest) both c.loop-rest.invariant.base);
    }

pub returns : goal.returns
returns c =
    let none : length c.loop-rest.rest.now ≡ 0 = search rules in
    record {
      base = base-end c.loop-rest.page.base _ c.loop-rest.rest.now none c.loop-rest.invariant.base;
      refs = refs-end c.loop-rest.page.refs _ c.loop-rest.rest.now none c.loop-rest.invariant.refs;
    }
