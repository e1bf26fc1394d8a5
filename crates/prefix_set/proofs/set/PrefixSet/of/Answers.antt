-- What is kept is what the sort left, without those that begin with the one kept before.
use Rattle.std.proofs.Common.{rules, ◌≡◌, sym, ◌∙◌, ap, nat_eq, subst}
use Rattle.std.specs.List.{starts_with}
use Rattle.std.proofs.lemmas.Fn.{dedup_same}
use Rattle.std.proofs.lemmas.List.{take_all}
use Rattle.std.proofs.lemmas.List.Sorted.{list_any-IsPermutation}
use Rattle.prefix_set.specs.Prefixes.{covers, AreApart}
use Rattle.prefix_set.proofs.Order.{AreApart-dedup, covers-dedup}
use Rattle.prefix_set.proofs.set.PrefixSet.of.Goals as goal

pub invariant_of-result : goal.invariant_of-result
invariant_of-result g c =
    let left = dedup_same _ (starts_with nat_eq) _ (λ x y b f' x' y' k. search rules) _ _ c.dedup_by.ensures.filtered in
    subst AreApart (sym left) (AreApart-dedup c.sort_unstable.new.self.items c.sort_unstable.ensures.sorted)

pub returns : goal.returns
returns g c = λ text.
    let left = dedup_same _ (starts_with nat_eq) _ (λ x y b f' x' y' k. search rules) _ _ c.dedup_by.ensures.filtered in
    let same : covers c.loop-prefix.kept.items text ≡ covers c.sort_unstable.new.self.items text = list_any-IsPermutation (starts_with nat_eq text) _ _ c.sort_unstable.ensures.permutation in
    let all = c.loop-prefix.invariant ∙ take_all _ _ c.loop-prefix-test.false in
    ap (λ l. covers l text) left ∙ covers-dedup c.sort_unstable.new.self.items text ∙ sym same ∙ ap (λ l. covers l text) all
