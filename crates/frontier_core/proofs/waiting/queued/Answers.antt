use Rattle.std.proofs.Common.{◌≡◌, ◌+◌, Bool, List, [], ◌∷◌, map, length, refl, ◌∙◌, ap, ap₂, subst, arith, rules}
use Rattle.std.specs.Ordering.{is_lt}
use Rattle.std.specs.List.Sorted.{IsPermutation, IsSortedBy}
use Rattle.std.proofs.lemmas.List.{get_or-map, length-map}
use Rattle.std.proofs.lemmas.List.Sorted.{IsPermutation-map, ranks_by, answers_always}
use Rattle.std.proofs.lemmas.Result.{IfOk-weaker}
use Rattle.crawl_history.specs.Queues.{Add}
use Rattle.frontier_core.specs.Kept.{turn_add}
use Rattle.frontier_core.specs.Waiting.{queue_order}
use Rattle.frontier_core.specs.declared.waiting.Turn.{Turn}
use Rattle.frontier_core.proofs.Ordering.{queue_order_total}
use Rattle.frontier_core.proofs.waiting.queued.Goals as goal

items-added : (turns : List Turn) → map (λ t. t.item) turns ≡ map (λ a. a.item) (map turn_add turns)
items-added [] = refl
items-added (t ∷ turns) = ap (λ l. t.item ∷ l) (items-added turns)

-- turns that are sorted by their adds, as adds
sorted-added : (turns : List Turn) → IsSortedBy (λ x y. is_lt (queue_order (turn_add x) (turn_add y))) turns → IsSortedBy (λ x y. is_lt (queue_order x y)) (map turn_add turns)
sorted-added turns by k d low lt =
    let long : length (map turn_add turns) ≡ length turns = length-map turns turn_add in
    let e : Turn = record { item = d.item; ordinal = d.ordinal } in
    ap₂ (λ x y. is_lt (queue_order x y)) (get_or-map turn_add turns (k + 1) e d (omega (arith, lt, long))) (get_or-map turn_add turns k e d (omega (arith, lt, long)))
    ∙ by k e low (omega (arith, lt, long))

pub returns-clause-queued : goal.returns-clause-queued
returns-clause-queued c =
    let sorted = c.sort_unstable_by.new.self.items in
    let lt : Turn → Turn → Bool = λ x y. is_lt (queue_order (turn_add x) (turn_add y)) in
    IfOk-weaker c.items_of.result _ _
    (λ items are. record {
      adds = map turn_add sorted;
      of = are ∙ items-added sorted;
      same = subst (λ (l : List Add). IsPermutation l (map turn_add sorted)) c.in_ok-turns.ensures.turns (IsPermutation-map turn_add c.in_ok-turns.turns.items sorted c.sort_unstable_by.ensures.permutation);
      sorted = sorted-added sorted (c.sort_unstable_by.ensures.sorted lt (ranks_by queue_order_total turn_add) (answers_always _ _ _ (λ f a r q k. search rules)));
    })
    c.items_of.ensures
