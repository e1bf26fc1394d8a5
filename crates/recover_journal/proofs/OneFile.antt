-- A file holds one list of events, or is damaged at one place.
use Rattle.std.proofs.Common.{◌≡◌, inl, inr, ℕ, ◌≤◌, List, [], ◌∷◌, ◌++◌, length, refl, sym, ◌∙◌, ap, subst}
use Rattle.std.specs.Prelude.{replicate}
use Rattle.crawl_kinds.specs.declared.event.Event.{Event}
use Rattle.gate_log.specs.Blocks.{Counts, IsDamagedAt}
use Rattle.gate_log.specs.Reading.{AreBlocksOf, bodies_of, placed}
use Rattle.gate_log.specs.declared.block.Block.{Block}
use Rattle.journal_valid.specs.Valid.{IsSpelled}
use Rattle.recover_journal.specs.Faults.{IsJournalDamage}
use Rattle.recover_journal.specs.Holds.{AreEvents, Holds}

-- no events have the lines of a list with a bad block
pub bad_none : (before : List Block) (block : Block) (behind : List Block) (events : List Event) (gates : List ℕ) → AreEvents (before ++ block ∷ behind) events gates
    → ((own : List Event) → IsSpelled own block.body → ⊥) → ⊥
bad_none [] block behind events gates are bad = bad are.own are.lines
bad_none (first ∷ before) block behind events gates are bad = bad_none before block behind are.rest are.more are.behind bad

-- two lists that are one have one first bad block
pub first_bad_one : (before before' : List Block) (block block' : Block) (behind behind' : List Block) (events events' : List Event) (gates gates' : List ℕ) → before ++ block ∷ behind ≡ before' ++ block' ∷ behind'
    → AreEvents before events gates → AreEvents before' events' gates' → ((own : List Event) → IsSpelled own block.body → ⊥) → ((own : List Event) → IsSpelled own block'.body → ⊥) → block ≡ block'
first_bad_one [] [] block block' behind behind' events events' gates gates' same good good' bad bad' = cc
first_bad_one [] (first' ∷ before') block block' behind behind' events events' gates gates' same good good' bad bad' =
    let is : first' ≡ block = cc in absurd (bad good'.own (subst (λ (b : Block). IsSpelled good'.own b.body) is good'.lines))
first_bad_one (first ∷ before) [] block block' behind behind' events events' gates gates' same good good' bad bad' =
    let is : first ≡ block' = cc in absurd (bad' good.own (subst (λ (b : Block). IsSpelled good.own b.body) is good.lines))
first_bad_one (first ∷ before) (first' ∷ before') block block' behind behind' events events' gates gates' same good good' bad bad' =
    let rest : before ++ block ∷ behind ≡ before' ++ block' ∷ behind' = cc in
    first_bad_one before before' block block' behind behind' good.rest good'.rest good.more good'.more rest good.behind good'.behind bad bad'

-- a file that counts no more than a byte holds no events
pub empty_holds : (file : List ℕ) → length file ≤ 1 → Holds [] [] file
empty_holds file short = record { blocks = []; counted = record { counts = inr (refl, short); places = refl }; lines = (refl, refl) }

-- by the laws of gate logs and of lines
module _ (one : (bodies others : List (List ℕ)) (file : List ℕ) → Counts bodies file → Counts others file → bodies ≡ others) where
  pub blocks_one : (blocks others : List Block) (file : List ℕ) → AreBlocksOf blocks file → AreBlocksOf others file → blocks ≡ others
  blocks_one blocks others file a b = a.places ∙ ap (placed 0) (one (bodies_of blocks) (bodies_of others) file a.counts b.counts) ∙ sym b.places

  module _ (one_text : (events others : List Event) (text : List ℕ) → IsSpelled events text → IsSpelled others text → events ≡ others) where
    events_one : (blocks : List Block) (events others : List Event) (gates places : List ℕ) → AreEvents blocks events gates → AreEvents blocks others places → (events ≡ others) × (gates ≡ places)
    events_one [] events others gates places a b = (a.0 ∙ sym b.0, a.1 ∙ sym b.1)
    events_one (block ∷ blocks) events others gates places a b =
        let own : a.own ≡ b.own = one_text a.own b.own block.body a.lines b.lines in
        let rest = events_one blocks a.rest b.rest a.more b.more a.behind b.behind in
        let first : a.own ++ a.rest ≡ b.own ++ b.rest = cc (own, rest.0) in
        let second : replicate (length a.own) block.gate ++ a.more ≡ replicate (length b.own) block.gate ++ b.more = cc (own, rest.1) in
        (a.events_are ∙ first ∙ sym b.events_are, a.gates_are ∙ second ∙ sym b.gates_are)

    pub holds_one : (events others : List Event) (gates places : List ℕ) (file : List ℕ) → Holds events gates file → Holds others places file → (events ≡ others) × (gates ≡ places)
    holds_one events others gates places file a b =
        let same = blocks_one b.blocks a.blocks file b.counted a.counted in
        events_one a.blocks events others gates places a.lines (subst (λ (l : List Block). AreEvents l others places) same b.lines)

  module _ (whole : (at : ℕ) (bodies : List (List ℕ)) (file : List ℕ) → IsDamagedAt at file → Counts bodies file → ⊥) where
    pub damage_none : (at : ℕ) (events : List Event) (gates : List ℕ) (file : List ℕ) → IsJournalDamage at file → Holds events gates file → ⊥
    damage_none at events gates file (inl damage) holds = whole at (bodies_of holds.blocks) file damage holds.counted.counts
    damage_none at events gates file (inr bad) holds =
        let same = blocks_one holds.blocks (bad.before ++ bad.block ∷ bad.behind) file holds.counted bad.counted in
        bad_none bad.before bad.block bad.behind events gates (subst (λ (l : List Block). AreEvents l events gates) same holds.lines) bad.bad

    module _ (place : (at other : ℕ) (file : List ℕ) → IsDamagedAt at file → IsDamagedAt other file → at ≡ other) where
      pub damage_one : (at other : ℕ) (file : List ℕ) → IsJournalDamage at file → IsJournalDamage other file → at ≡ other
      damage_one at other file (inl a) (inl b) = place at other file a b
      damage_one at other file (inl a) (inr b) = absurd (whole at (bodies_of (b.before ++ b.block ∷ b.behind)) file a b.counted.counts)
      damage_one at other file (inr a) (inl b) = absurd (whole other (bodies_of (a.before ++ a.block ∷ a.behind)) file b a.counted.counts)
      damage_one at other file (inr a) (inr b) =
          let lists = blocks_one (a.before ++ a.block ∷ a.behind) (b.before ++ b.block ∷ b.behind) file a.counted b.counted in
          let same = first_bad_one a.before b.before a.block b.block a.behind b.behind a.events b.events a.gates b.gates lists a.good b.good a.bad b.bad in
          a.place ∙ ap (λ (b : Block). b.gate) same ∙ sym b.place
