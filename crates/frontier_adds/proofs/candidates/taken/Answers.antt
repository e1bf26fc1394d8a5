use Rattle.std.proofs.Common.{◌≡◌, ℕ, ◌+◌, Bool, List, [], ◌∷◌, ◌++◌, take, ap, sym, ◌∙◌}
use Rattle.std.specs.Prelude.{if◌then◌else◌}
use Rattle.std.specs.BTreeSet.{BTreeSet, contains}
use Rattle.std.specs.Cmp.Lexicographic.{slice_cmp}
use Rattle.std.specs.List.{list_any}
use Rattle.std.specs.Ordering.{nat_cmp}
use Rattle.crawl_kinds.specs.declared.item.Item.{Item}
use Rattle.crawl_history.specs.Places.{has_key}
use Rattle.frontier_adds.specs.Candidates.{taken}
use Rattle.frontier_memo.proofs.Keeping.{next_taken}
use Rattle.frontier_adds.proofs.Choosing.{choose_step}
use Rattle.frontier_adds.proofs.candidates.taken.Goals as goal
use Rattle.frontier_adds.proofs.candidates.taken.Goals.{then-branch+in_ok-keep, else-branch}

pub loop-item-preserved : goal.loop-item-preserved
loop-item-preserved c =
    let x : Item = c.item-item.result in
    let choose : Bool → List Item = λ b. if b then c.loop-item.items ++ (if list_any (has_key x.key) c.loop-item.items then [] else x ∷ []) else c.loop-item.items in
    let step : (after : List Item) → after ≡ choose c.in_ok-is_taken.field-0
    → after ≡ taken c.args.places.now c.args.scope.now (take (c.loop-item.item-index + 1) c.args.candidates.now) =
    λ after is. choose_step c.args.places.now c.args.scope.now c.loop-item.decider (take c.loop-item.item-index c.args.candidates.now) x c.loop-item.items after c.in_ok-is_taken.field-0
    c.loop-item.invariant.asked c.in_ok-is_taken.ensures.taken c.loop-item.invariant.items is
    ∙ ap (λ (l : List Item). taken c.args.places.now c.args.scope.now l) (sym (next_taken c.args.candidates.now c.loop-item.item-index x c.loop-item-test.true c.item-item.is)) in
    let asked = c.in_ok-is_taken.ensures.same ∙ c.loop-item.invariant.asked in
    elim c.if-branch.branch [
      | then-branch+in_ok-keep w ↦ record {
        asked = asked;
        items = step c.if-branch.items (w.items-is ∙ w.in_ok-keep.ensures.kept ∙ ap choose (sym w.if-branch.true));
        seen = λ key. ap (λ (s : BTreeSet (List ℕ)). contains (slice_cmp nat_cmp) s key) w.seen-is ∙ w.in_ok-keep.ensures.seen key ∙ ap (λ (l : List Item). list_any (has_key key) l) (sym w.items-is);
      }
      | else-branch w ↦ record {
        asked = asked;
        items = step c.if-branch.items (w.items-is ∙ ap choose (sym w.if-branch.false));
        seen = λ key. ap (λ (s : BTreeSet (List ℕ)). contains (slice_cmp nat_cmp) s key) w.seen-is ∙ c.loop-item.invariant.seen key ∙ ap (λ (l : List Item). list_any (has_key key) l) (sym w.items-is);
      }
    ]
