use Rattle.std.proofs.Common.{◌≡◌, ◌+◌, ◌*◌, ℕ, List, [], ◌∷◌, ◌++◌, length, length-append, ap, ◌∙◌, subst, arith}
use Rattle.turn_client.specs.declared.part.Part.{Part}
use Rattle.turn_client.specs.Rows.{AreDealt}
use Rattle.turn_client.proofs.Dealing.{Is, dealt_before, dealt_last, suc_times, more_made}
use Rattle.turn_client.proofs.callers.gather.Goals as goal

pub loop-part-init : goal.loop-part-init
loop-part-init c = let turns : ℕ = c.args.turns in let before : List Part = c.pop.new.self.items in let last : Part = c.in-Some.all in let n : ℕ = length c.args.parts.items in
    let id = c.args.tally.now.lock.table.shared.table_id in
    let items : c.args.parts.items ≡ before ++ last ∷ [] = c.in-Some.ensures.items in
    let long : n ≡ length before + 1 = ap length items ∙ length-append before (last ∷ []) in
    let dealt : AreDealt id n turns 0 (before ++ last ∷ []) = subst (AreDealt id n turns 0) items c.requires.dealt in
    let here = dealt_last id n turns 0 before last dealt in let place = here.1 in let low = place.0 in let end = place.1 in let made = here.2.0 in
    record {
      own = here.0;
      first = place.3 (omega arith);
      numbers = low;
      end = end;
      made = ap (λ m. m + length before * turns) made ∙ suc_times n (length before) turns long;
      dealt = dealt_before id n turns 0 before last dealt;
      shorter = omega arith;
    }

-- what is known of the part that was popped
here : (c : goal.After-all-in-Some-pop-1) → Is c.args.tally.now.lock.table.shared.table_id (length c.args.parts.items) c.args.turns 0 (length c.pop-in-loop-part.new.self.items) c.in-Some-pop.part
here c = let before : List Part = c.pop-in-loop-part.new.self.items in let n : ℕ = length c.args.parts.items in let id = c.args.tally.now.lock.table.shared.table_id in
    dealt_last id n c.args.turns 0 before c.in-Some-pop.part (subst (AreDealt id n c.args.turns 0) c.in-Some-pop.ensures.items c.loop-part.invariant.dealt)

long : (c : goal.After-all-in-Some-pop-1) → length c.loop-part.parts.items ≡ length c.pop-in-loop-part.new.self.items + 1
long c = let before : List Part = c.pop-in-loop-part.new.self.items in ap length c.in-Some-pop.ensures.items ∙ length-append before (c.in-Some-pop.part ∷ [])

pub join-requires-clause-own : goal.join-requires-clause-own
join-requires-clause-own c = (c.loop-part.invariant.own, (here c).0)

pub join-requires-clause-both : goal.join-requires-clause-both
join-requires-clause-both c = (c.loop-part.invariant.numbers, (here c).1.0)

pub join-requires-clause-adjacent : goal.join-requires-clause-adjacent
join-requires-clause-adjacent c = let l = long c in let end = c.loop-part.invariant.end in let short = c.loop-part.invariant.shorter in
    let first = (here c).1.2 (omega arith) in omega arith

pub loop-part-preserved : goal.loop-part-preserved
loop-part-preserved c = let turns : ℕ = c.args.turns in let before : List Part = c.pop-in-loop-part.new.self.items in let part : Part = c.in-Some-pop.part in let all : Part = c.loop-part.all in
    let n : ℕ = length c.args.parts.items in let i = c.loop-part.invariant in let id = c.args.tally.now.lock.table.shared.table_id in
    let long : length c.loop-part.parts.items ≡ length before + 1 = ap length c.in-Some-pop.ensures.items ∙ length-append before (part ∷ []) in
    let dealt : AreDealt id n turns 0 (before ++ part ∷ []) = subst (AreDealt id n turns 0) c.in-Some-pop.ensures.items i.dealt in
    let here = dealt_last id n turns 0 before part dealt in let low = here.1.0 in let end = here.1.1 in let made = here.2.0 in
    let first = c.join.ensures.numbers.0 in let last = c.join.ensures.numbers.1 in let i_first = i.first in let short = i.shorter in
    record {
      own = c.join.ensures.own;
      first = first ∙ i_first;
      numbers = omega arith;
      end = ap (λ m. m + length before) last ∙ end;
      made = more_made all.made part.made turns (length c.loop-part.parts.items) (length before) n c.join.new.part.made c.join.ensures.sums.0 made long i.made;
      dealt = dealt_before id n turns 0 before part dealt;
      shorter = omega arith;
    }
