use Rattle.std.proofs.Common.{◌≡◌, ℕ, List, ◌++◌, length, take, drop, sym, ap, ◌∙◌, subst, All}
use Rattle.std.proofs.Math.Seq.{take-append_seam}
use Rattle.turn_client.specs.declared.part.Part.{Part}
use Rattle.turn_client.specs.Rows.{AreDealt, IsReady}
use Rattle.turn_client.proofs.Dealing.{ready, added}
use Rattle.turn_client.proofs.callers.count_up.Goals as goal

pub all_add-requires-clause-ready : goal.all_add-requires-clause-ready
all_add-requires-clause-ready g c = λ _ _. let id = c.in_ok-tally.tally.lock.table.shared.table_id in
    subst (All (IsReady id c.args.turns)) (sym c.as_mut_slice.ensures.value) (ready id c.args.callers 1099511627776 c.args.turns c.in_ok-parts.parts.items c.requires.turns c.in_ok-parts.ensures.1)

pub gather-all-requires-clause-dealt : goal.gather-all-requires-clause-dealt
gather-all-requires-clause-dealt g c = let id = c.in_ok-tally.tally.lock.table.shared.table_id in let turns : ℕ = c.args.turns in let n : ℕ = c.args.callers in
    let items : List Part = c.in_ok-parts.parts.items in let old : List Part = c.as_mut_slice.result.now in let new : List Part = c.all_add.new.parts in
    let value : old ≡ items = c.as_mut_slice.ensures.value in let long : length new ≡ length old = c.all_add.auto.parts in
    let left : List Part = drop (length new) items in
    let same : take c.in_ok-parts.parts.len (new ++ left) ≡ new = ap (λ m. take m (new ++ left)) (c.in_ok-parts.parts.ok.0 ∙ sym (ap length value) ∙ sym long) ∙ take-append_seam new left in
    let count : length new ≡ n = long ∙ ap length value ∙ c.in_ok-parts.ensures.0 in
    let dealt : AreDealt id n turns 0 new = added id n 1099511627776 turns old new (subst (AreDealt id n 0 1099511627776) (sym value) c.in_ok-parts.ensures.1) long c.all_add.ensures in
    subst (λ (l : List Part). AreDealt id (length l) turns 0 l) (sym same) (subst (λ m. AreDealt id m turns 0 new) (sym count) dealt)
