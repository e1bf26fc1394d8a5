use Rattle.std.proofs.Common.{◌≡◌, ℕ, ◌+◌, ℤ, true, false, ◌||◌, List, [], ◌∷◌, ◌++◌, map, take, drop, length, Option, sym, subst, ap, ◌∙◌, arith}
use Rattle.std.specs.List.{list_any, AllByRecursion}
use Rattle.std.proofs.lemmas.List.{take-map, length-take-le}
use Rattle.crawl_kinds.specs.declared.item.Item.{Item}
use Rattle.crawl_history.specs.Places.{has_key}
use Rattle.frontier_memo.specs.Keeping.{known_at, after_adds, are_free, waits_by, code_by}
use Rattle.frontier_memo.proofs.Keeping.{next_taken, next_dropped, added_more, free_step, waits_by-after_adds, restored, all-push, or_parts}
use Rattle.frontier_memo.proofs.places.add_each.Goals as goal

pub returns-then-waits-clause-free : goal.returns-then-waits-clause-free
returns-then-waits-clause-free c =
    let kept = known_at c.args.places.now in
    let i = c.loop-at.at in
    let xs = c.args.items.now in
    let x = c.index-items-at.result in
    let said : true ≡ (list_any (has_key x.key) (take i xs) || waits_by (kept x.key)) =
    sym c.if-waits.true ∙ c.waits.ensures ∙ ap waits_by (c.loop-at.invariant.kept x.key) ∙ waits_by-after_adds c.args.ordinals (take i xs) x.key (kept x.key) in
    sym
    (c.loop-at.invariant.free
    ∙ ap (are_free (λ (key : List ℕ). waits_by (kept key)) (take i xs)) (next_dropped xs i x c.loop-at-test.true c.index-items-at.is)
    ∙ free_step (λ (key : List ℕ). waits_by (kept key)) (take i xs) (drop (i + 1) xs) x true said)

pub returns-in-Err-clause-err : goal.returns-in-Err-clause-err
returns-in-Err-clause-err c key =
    let kept = known_at c.args.places.now in
    let i = c.loop-at.at in
    let codes : take i c.deref.result.now ≡ map (λ (i : Item). code_by (kept i.key)) (take i c.args.items.now) =
    ap (λ (l : List (Option ℤ)). take i l) (c.deref.ensures.value ∙ c.in_ok-codes.ensures) ∙ take-map (λ (i : Item). code_by (kept i.key)) i c.args.items.now in
    restored kept c.args.ordinals (take i c.args.items.now) key (known_at c.add.new.places key) _ c.loop-at.invariant.quiet
    (c.in-Err.ensures.err key ∙ c.loop-at.invariant.kept key) (c.undo_all.ensures kept codes key)

pub loop-at-preserved : goal.loop-at-preserved
loop-at-preserved c =
    let kept = known_at c.args.places.now in
    let i = c.loop-at.at in
    let xs = c.args.items.now in
    let x = c.index-items-at.result in
    let taken : take (i + 1) xs ≡ take i xs ++ x ∷ [] = next_taken xs i x c.loop-at-test.true c.index-items-at.is in
    let said : false ≡ (list_any (has_key x.key) (take i xs) || waits_by (kept x.key)) =
    sym c.if-waits.false ∙ c.waits.ensures ∙ ap waits_by (c.loop-at.invariant.kept x.key) ∙ waits_by-after_adds c.args.ordinals (take i xs) x.key (kept x.key) in
    let long : length (take i xs) ≡ i = length-take-le i xs (omega (arith, c.loop-at-test.true)) in
    record {
      kept = λ key. added_more c.args.ordinals _ (known_at c.loop-at.places key) (kept key) _ (take i xs) x key (ap (λ n. (c.args.ordinals + 1) + n) (sym long)) (c.in_default.ensures.ok key) (c.loop-at.invariant.kept key)
          ∙ ap (λ (ys : List Item). after_adds c.args.ordinals ys key (kept key)) (sym taken);
      free = c.loop-at.invariant.free
          ∙ ap (are_free (λ (key : List ℕ). waits_by (kept key)) (take i xs)) (next_dropped xs i x c.loop-at-test.true c.index-items-at.is)
          ∙ free_step (λ (key : List ℕ). waits_by (kept key)) (take i xs) (drop (i + 1) xs) x false said
          ∙ ap (λ (ys : List Item). are_free (λ (key : List ℕ). waits_by (kept key)) ys (drop (i + 1) xs)) (sym taken);
      quiet = subst (AllByRecursion (λ (j : Item). waits_by (kept j.key) ≡ false)) (sym taken)
          (all-push (λ (j : Item). waits_by (kept j.key) ≡ false) (take i xs) x c.loop-at.invariant.quiet (or_parts _ _ (sym said)));
    }
