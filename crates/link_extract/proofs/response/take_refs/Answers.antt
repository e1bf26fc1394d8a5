use Rattle.std.proofs.Common.{◌≡◌, ◌+◌, ◌∷◌, [], ◌++◌, take, drop, ap, sym, ◌∙◌, arith}
use Rattle.std.proofs.lemmas.Bool.Decides.{nat_tests}
use Rattle.std.proofs.lemmas.List.{take_more, take-append-drop}
use Rattle.link_extract.proofs.Growing.{with_few, with_none, with_rest, with_step}
use Rattle.link_extract.proofs.response.take_refs.Goals as goal

pub loop-reference-init : goal.loop-reference-init
loop-reference-init c = record {
  few = c.requires;
  links = with_none c.args.links.now c.args.base.now c.requires;
  addresses = λ all. all;
}

pub returns-then-is_full-clause-links : goal.returns-then-is_full-clause-links
returns-then-is_full-clause-links c =
    let i = c.loop-reference.reference-index in
    let refs = c.args.refs.now in
    with_rest c.args.links.now c.loop-reference.links c.args.base.now (take i refs) (drop i refs) refs c.loop-reference.invariant.links
    (grind (arith, nat_tests, c.is_full.ensures.full, c.if-is_full.true)) (sym (take-append-drop i refs))

pub loop-reference-preserved : goal.loop-reference-preserved
loop-reference-preserved c =
    let i = c.loop-reference.reference-index in
    let refs = c.args.refs.now in
    let item = c.reference-item.result in
    let cut : take (i + 1) refs ≡ take i refs ++ item ∷ [] = take_more refs i item c.loop-reference-test.true ∙ ap (λ r. take i refs ++ r ∷ []) (sym c.reference-item.is) in
    record {
      few = with_few c.loop-reference.links c.args.base.now (item ∷ []) c.take_ref.new.links c.in_ok-take_ref.ensures.links;
      links = with_step c.args.links.now c.loop-reference.links c.take_ref.new.links c.args.base.now (take i refs) (item ∷ []) (take (i + 1) refs) c.loop-reference.invariant.links c.in_ok-take_ref.ensures.links cut;
      addresses = λ all. c.in_ok-take_ref.ensures.addresses (c.loop-reference.invariant.addresses all);
    }
