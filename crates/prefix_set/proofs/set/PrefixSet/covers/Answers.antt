-- The greatest prefix that is not above the text decides, and where there is none, none covers it.
use Rattle.std.proofs.Common.{rules, of_calls, ℕ, List, sym, subst, ap, ◌∙◌, nat_eq}
use Rattle.std.specs.List.{starts_with}
use Rattle.std.proofs.lemmas.List.Sorted.{IsPartitionPoint-from_clause}
use Rattle.prefix_set.specs.Prefixes.{covers, AreApart}
use Rattle.prefix_set.proofs.Order.{is_up_to, IsPoint, IsPartitionedBy-up_to, covers_none, covers_last, last_of_take}
use Rattle.prefix_set.proofs.set.PrefixSet.covers.Goals as goal

pub returns-in-Some : goal.returns-in-Some
returns-in-Some g c =
    let xs : List (List ℕ) = c.as_slice-kept.result.now in
    let text : List ℕ = c.args.text.now in
    let n : ℕ = c.partition_point-not_above.result in
    let p : List ℕ = c.in-Some.prefix.now in
    let apart : AreApart xs = subst AreApart (sym c.as_slice-kept.ensures.value) c.self.invariant in
    let point : IsPoint xs text n = IsPartitionPoint-from_clause (is_up_to text) xs n c.partition_point-not_above.ensures.partitioned (IsPartitionedBy-up_to xs text apart) (λ a r q k. search (rules, of_calls)) in
    let last = last_of_take xs n p c.partition_point-not_above.ensures.bound c.in-Some.ensures.item.3.0 c.in-Some.ensures.item.1 in
    c.starts_with.ensures.value
    ∙ ap (starts_with nat_eq text) (c.as_bytes.ensures.same ∙ last.1)
    ∙ covers_last xs text n p apart last.0 c.partition_point-not_above.ensures.bound point
    ∙ ap (λ l. covers l text) (c.as_slice-kept.ensures.value ∙ c.self.view_is)

pub returns-in-None : goal.returns-in-None
returns-in-None g c =
    let xs : List (List ℕ) = c.as_slice-kept.result.now in
    let text : List ℕ = c.args.text.now in
    let n : ℕ = c.partition_point-not_above.result in
    let apart : AreApart xs = subst AreApart (sym c.as_slice-kept.ensures.value) c.self.invariant in
    let point : IsPoint xs text n = IsPartitionPoint-from_clause (is_up_to text) xs n c.partition_point-not_above.ensures.partitioned (IsPartitionedBy-up_to xs text apart) (λ a r q k. search (rules, of_calls)) in
    sym (covers_none xs text n c.partition_point-not_above.ensures.bound c.in-None.ensures.item.3 point)
    ∙ ap (λ l. covers l text) (c.as_slice-kept.ensures.value ∙ c.self.view_is)
