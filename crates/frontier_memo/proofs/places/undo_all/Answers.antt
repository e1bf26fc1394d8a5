use Rattle.std.proofs.Common.{◌≡◌, ℤ, Option, None, List, take, get_or, ap, ◌∙◌, sym}
use Rattle.std.proofs.lemmas.List.{get_or-map}
use Rattle.crawl_kinds.specs.declared.item.Item.{Item}
use Rattle.frontier_memo.specs.Keeping.{known_at, code_by}
use Rattle.frontier_memo.specs.Undoing.{undone_all}
use Rattle.frontier_memo.proofs.Keeping.{next_taken, undone_more}
use Rattle.frontier_memo.proofs.places.undo_all.Goals as goal

pub loop-at-preserved : goal.loop-at-preserved
loop-at-preserved c kept codes key =
    let i = c.loop-at.at in
    let x = c.index-items-at.result in
    let code : get_or c.args.codes.now i None ≡ code_by (kept x.key) =
    ap (λ (l : List (Option ℤ)). get_or l i None) codes
    ∙ get_or-map (λ (i : Item). code_by (kept i.key)) c.args.items.now i x None c.loop-at-test.true
    ∙ ap (λ (i : Item). code_by (kept i.key)) (sym c.index-items-at.is) in
    undone_more kept (take i c.args.items.now) x _ key (known_at c.args.places.now key) (known_at c.loop-at.places key) _ code (c.undo.ensures key) (c.loop-at.invariant kept codes key)
    ∙ ap (λ (xs : List Item). undone_all xs (code_by (kept key)) key (known_at c.args.places.now key)) (sym (next_taken c.args.items.now i x c.loop-at-test.true c.index-items-at.is))
