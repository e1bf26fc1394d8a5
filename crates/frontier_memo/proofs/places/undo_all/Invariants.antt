use Rattle.std.proofs.Common.{◌≡◌, ℕ, List, map, take, Option}
use Rattle.crawl_kinds.specs.declared.item.Item.{Item}
use Rattle.frontier_memo.specs.declared.known.Known.{Known}
use Rattle.frontier_memo.specs.Keeping.{known_at, code_by}
use Rattle.frontier_memo.specs.Undoing.{undone_all}
use Rattle.frontier_memo.proofs.places.undo_all.Given as goal

abbrev pub invariant-loop-at : goal.invariant-loop-at
invariant-loop-at l =
    (kept : List ℕ → Option Known) → l.codes ≡ map (λ (i : Item). code_by (kept i.key)) l.items
    → (key : List ℕ) → known_at l.places key ≡ undone_all (take l.at l.items) (code_by (kept key)) key (known_at l.initial.places key)
