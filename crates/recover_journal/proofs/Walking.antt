-- A walk over the blocks of a file.
use Rattle.std.proofs.Common.{◌≡◌, inl, inr, ℕ, suc, ◌+◌, ◌-◌, ◌<◌, List, ◌∷◌, ◌++◌, length, get_or, take, drop, sym, ◌∙◌, ap, subst, arith, drop-cons}
use Rattle.std.proofs.lemmas.List.{take-append-drop, take_all}
use Rattle.std.specs.Prelude.{replicate}
use Rattle.std.specs.List.{AllByRecursion}
use Rattle.crawl_kinds.specs.declared.event.Event.{Event}
use Rattle.crawl_traits.specs.declared.fault.StoreFault.{StoreFault}
use Rattle.crawl_traits.specs.declared.fault.StoreFault.TheVariants.{Volume, Damaged, NoMemory}
use Rattle.gate_log.specs.Blocks.{Counts, IsBody}
use Rattle.gate_log.specs.Reading.{AreBlocksOf, bodies_of}
use Rattle.gate_log.specs.declared.block.Block.{Block}
use Rattle.recover_journal.specs.Faults.{IsBlockFault, IsJournalFault}
use Rattle.recover_journal.specs.Holds.{AreEvents}
use Rattle.recover_journal.proofs.BlockLists.{body_among}

-- bodies that are counted are bodies
pub counts_all : (bodies : List (List ℕ)) (file : List ℕ) → Counts bodies file → AllByRecursion IsBody bodies
counts_all bodies file (inl ends) = ends.all
counts_all bodies file (inr none) = subst (AllByRecursion IsBody) (sym none.0) (record {})

-- a list at one of its elements
pub cut_at : {X : Type 0} (all before : List X) (x : X) → before ≡ take (length before) all → length before < length all → x ≡ get_or all (length before) x
    → all ≡ before ++ x ∷ drop (suc (length before)) all
cut_at all before x front lt is =
    let k : ℕ = length before in
    sym (take-append-drop k all) ∙ ap (λ l. take k all ++ l) (drop-cons all k x lt ∙ ap (λ y. y ∷ drop (suc k) all) (sym is)) ∙ ap (λ l. l ++ x ∷ drop (suc k) all) (sym front)

-- gates after those of one block more, as `resize` makes them
pub gates_grown : (gates new : List ℕ) (n before own gate : ℕ) → new ≡ take n gates ++ replicate (n - before) gate → before ≡ length gates → n ≡ before + own → new ≡ gates ++ replicate own gate
gates_grown gates new n before own gate is long grown =
    let kept : take n gates ≡ gates = take_all n gates (omega (arith, long, grown)) in
    let rest : n - before ≡ own = omega (arith, grown) in
    is ∙ ap (λ (l : List ℕ). l ++ replicate (n - before) gate) kept ∙ ap (λ (k : ℕ). gates ++ replicate k gate) rest

-- the same events of the same blocks
pub are_same : (blocks : List Block) (events others : List Event) (gates places : List ℕ) → AreEvents blocks events gates → events ≡ others → gates ≡ places → AreEvents blocks others places
are_same blocks events others gates places are same equal =
    subst (λ (l : List ℕ). AreEvents blocks others l) equal (subst (λ (l : List Event). AreEvents blocks l gates) same are)

-- a fault at a block is one of the file
pub fault_at : (before : List Block) (block : Block) (behind : List Block) (events : List Event) (gates : List ℕ) (file : List ℕ) (fault : StoreFault)
    → AreBlocksOf (before ++ block ∷ behind) file → AreEvents before events gates → IsBlockFault block fault → IsJournalFault file fault
fault_at before block behind events gates file Volume counted good bad = tt
fault_at before block behind events gates file (Damaged of_file at) counted good bad =
    let all = counts_all (bodies_of (before ++ block ∷ behind)) file counted.counts in (
      bad.0,
      inr (record {
        before = before;
        block = block;
        behind = behind;
        counted = counted;
        place = bad.1;
        events = events;
        gates = gates;
        good = good;
        bad = bad.2 (body_among before block behind all);
      }),
    )
fault_at before block behind events gates file NoMemory counted good bad = tt
