use Rattle.std.proofs.Common.{◌≡◌, ◌+◌, ◌∷◌, [], ◌++◌, take, drop, ap, sym, ◌∙◌, arith, append-nil}
use Rattle.std.specs.List.{flat_map}
use Rattle.std.proofs.lemmas.Bool.Decides.{nat_tests}
use Rattle.std.proofs.lemmas.Grind.{flat_map-append}
use Rattle.std.proofs.lemmas.List.{take_more, take-append-drop}
use Rattle.extract_spec.specs.Links.{part_refs}
use Rattle.link_extract.proofs.Growing.{with_few, with_none, with_rest, with_step}
use Rattle.link_extract.proofs.response.take_parts.Goals as goal

pub loop-reference-init : goal.loop-reference-init
loop-reference-init c = record {
  few = c.requires;
  links = with_none c.args.links.now c.args.base.now c.requires;
  addresses = λ all. all;
}

pub returns-then-is_full-clause-links : goal.returns-then-is_full-clause-links
returns-then-is_full-clause-links c =
    let i = c.loop-reference.reference-index in
    let refs = c.args.refs.now in
    let cut : flat_map part_refs refs ≡ flat_map part_refs (take i refs) ++ flat_map part_refs (drop i refs) =
    ap (flat_map part_refs) (sym (take-append-drop i refs)) ∙ flat_map-append part_refs (take i refs) (drop i refs) in
    with_rest c.args.links.now c.loop-reference.links c.args.base.now (flat_map part_refs (take i refs)) (flat_map part_refs (drop i refs)) (flat_map part_refs refs) c.loop-reference.invariant.links
    (grind (arith, nat_tests, c.is_full.ensures.full, c.if-is_full.true)) cut

pub loop-reference-preserved : goal.loop-reference-preserved
loop-reference-preserved c =
    let i = c.loop-reference.reference-index in
    let refs = c.args.refs.now in
    let item = c.reference-item.result in
    let more : take (i + 1) refs ≡ take i refs ++ item ∷ [] = take_more refs i item c.loop-reference-test.true ∙ ap (λ r. take i refs ++ r ∷ []) (sym c.reference-item.is) in
    let cut : flat_map part_refs (take (i + 1) refs) ≡ flat_map part_refs (take i refs) ++ part_refs item =
    ap (flat_map part_refs) more ∙ flat_map-append part_refs (take i refs) (item ∷ []) ∙ ap (λ l. flat_map part_refs (take i refs) ++ l) (append-nil (part_refs item)) in
    record {
      few = with_few c.loop-reference.links c.args.base.now (part_refs item) c.take_part.new.links c.in_ok-take_part.ensures.links;
      links = with_step c.args.links.now c.loop-reference.links c.take_part.new.links c.args.base.now (flat_map part_refs (take i refs)) (part_refs item) (flat_map part_refs (take (i + 1) refs)) c.loop-reference.invariant.links c.in_ok-take_part.ensures.links cut;
      addresses = λ all. c.in_ok-take_part.ensures.addresses (c.loop-reference.invariant.addresses all);
    }
