-- Journals at rest, and what calls leave.
use Rattle.std.proofs.Common.{◌≡◌, inl, inr, ℕ, List, [], ◌∷◌, ◌++◌, length, sym, ◌∙◌, ap, subst}
use Rattle.std.specs.Prelude.{replicate, Result, OnOk}
use Rattle.std.proofs.lemmas.Result.{on_ok_weaker}
use Rattle.crawl_kinds.specs.declared.event.Event.{Event}
use Rattle.crawl_traits.specs.Images.{Image, After, Only, InFile}
use Rattle.crawl_traits.specs.Runs.{LeavesOnly, IsSettled}
use Rattle.crawl_traits.specs.declared.file.FileId.{FileId}
use Rattle.crawl_traits.specs.declared.volume.Volume.{Ghosts}
use Rattle.crawl_traits.proofs.Moments.{weaker}
use Rattle.gate_log.specs.Blocks.{Counts, EndsAt, IsDamagedAt}
use Rattle.gate_log.specs.Logs.{file_of, IsAtRest}
use Rattle.gate_log.specs.Reading.{AreBlocksOf, bodies_of, placed}
use Rattle.gate_log.specs.Rest.{CountsOneMore, KeepsCount, Anything}
use Rattle.gate_log.specs.declared.block.Block.{Block}
use Rattle.journal_valid.specs.Valid.{IsSpelled}
use Rattle.recover_journal.specs.Holds.{journal_file, AreEvents, Holds, HoldsEvents}
use Rattle.recover_journal.specs.Faults.{IsJournalDamage}
use Rattle.recover_journal.specs.Rest.{Rests, KeepsEvents, KeepsReading, HoldsMore, OthersStay}
use Rattle.recover_journal.specs.declared.journal.Journal.{Journal}
use Rattle.recover_journal.proofs.BlockLists.{events-push, bodies_of-placed, placed-push}

-- a file that counts the bodies of events holds them
pub counted_holds : (bodies : List (List ℕ)) (events : List Event) (gates : List ℕ) (file : List ℕ) → Counts bodies file → AreEvents (placed 0 bodies) events gates → Holds events gates file
counted_holds bodies events gates file counts lines = record {
  blocks = placed 0 bodies;
  counted = record { counts = subst (λ (l : List (List ℕ)). Counts l file) (sym (bodies_of-placed 0 bodies)) counts; places = ap (placed 0) (sym (bodies_of-placed 0 bodies)) };
  lines = lines;
}

-- what ends at its gate counts its bodies
pub ends_counts : (bodies : List (List ℕ)) (file : List ℕ) → EndsAt bodies file → Counts bodies file
ends_counts bodies file ends = inl (record { gate = ends.gate; behind = []; all = ends.all; closed = ends.closed; spelled = ends.spelled })

-- bodies of events, and one more
pub lines-push : (bodies : List (List ℕ)) (body : List ℕ) (events more : List Event) (gates : List ℕ) → AreEvents (placed 0 bodies) events gates → IsSpelled more body
    → (places : List ℕ) × AreEvents (placed 0 (bodies ++ body ∷ [])) (events ++ more) places
lines-push bodies body events more gates lines own =
    let push = placed-push 0 bodies body in
    let block : Block = record { gate = push.0; body = body } in
    (gates ++ replicate (length more) push.0, subst (λ (l : List Block). AreEvents l (events ++ more) (gates ++ replicate (length more) push.0)) (sym push.1) (events-push (placed 0 bodies) block events more gates lines own))

-- a count that is kept keeps events
pub count_keeps : (before after : List ℕ) → KeepsCount before after → KeepsEvents before after
count_keeps before after kept events gates holds = record {
  blocks = holds.blocks;
  counted = record { counts = kept (bodies_of holds.blocks) holds.counted.counts; places = holds.counted.places };
  lines = holds.lines;
}

-- bodies that are counted, or these and one more, are events, or these and more
pub count_more : (bodies : List (List ℕ)) (body : List ℕ) (events more : List Event) (gates : List ℕ) (before after : List ℕ) → AreEvents (placed 0 bodies) events gates → IsSpelled more body
    → CountsOneMore bodies body before after → HoldsMore events more before after
count_more bodies body events more gates before after lines own (inl counts) = inl (gates, counted_holds bodies events gates after counts lines)
count_more bodies body events more gates before after lines own (inr counts) =
    let push = lines-push bodies body events more gates lines own in
    inr (push.0, counted_holds (bodies ++ body ∷ []) (events ++ more) push.0 after counts push.1)

-- a step of a file may be said in other words
pub after_as : (file : FileId) (step other : List ℕ → List ℕ → Type 0) (images : Image → Type 0) → ((old new : List ℕ) → step old new → other old new) → (i : Image) → After file step images i → After file other images i
after_as file step other images says i a = record { old = a.old; was = a.was; by = record { here = says (a.old file) (i file) a.by.here; elsewhere = a.by.elsewhere } }

-- a file whose blocks are counted still keeps its reading
module _ (one : (bodies others : List (List ℕ)) (file : List ℕ) → Counts bodies file → Counts others file → bodies ≡ others) (whole : (at : ℕ) (bodies : List (List ℕ)) (file : List ℕ) → IsDamagedAt at file → Counts bodies file → ⊥) where
  still_damaged : (before after : List ℕ) (bodies : List (List ℕ)) → Counts bodies before → KeepsCount before after → (at : ℕ) → IsJournalDamage at before → IsJournalDamage at after
  still_damaged before after bodies counts kept at (inl damage) = absurd (whole at bodies before damage counts)
  still_damaged before after bodies counts kept at (inr bad) =
      inr (record {
        before = bad.before;
        block = bad.block;
        behind = bad.behind;
        counted = record { counts = kept (bodies_of (bad.before ++ bad.block ∷ bad.behind)) bad.counted.counts; places = bad.counted.places };
        place = bad.place;
        events = bad.events;
        gates = bad.gates;
        good = bad.good;
        bad = bad.bad;
      })

  pub reading_kept : (before after : List ℕ) (bodies : List (List ℕ)) → Counts bodies before → Counts bodies after → KeepsReading before after
  reading_kept before after bodies was is =
      let kept : KeepsCount before after = λ others counts. subst (λ (l : List (List ℕ)). Counts l after) (one bodies others before was counts) is in
      record { events = count_keeps before after kept; damage = still_damaged before after bodies was kept }

-- only the file of the log changes
pub others_stay : (file : FileId) (before after : Image) → file ≡ journal_file → InFile file Anything before after → OthersStay before after
others_stay file before after is changed other apart = changed.elsewhere other (λ e. apart (e ∙ is))

module _ {V : Type 0} (of : Ghosts V) where
  -- a log at rest whose blocks were read
  pub rests_read : (journal : Journal) (volume : V) (blocks : List Block) (events : List Event) (gates : List ℕ) (file : List ℕ) → file_of journal.log ≡ journal_file
      → IsAtRest of journal.log volume (bodies_of blocks) → AreBlocksOf blocks file → AreEvents blocks events gates → Rests of journal volume events
  rests_read journal volume blocks events gates file is log counted lines = record {
    file = is;
    bodies = bodies_of blocks;
    log = log;
    gates = gates;
    lines = subst (λ (l : List Block). AreEvents l events gates) counted.places lines;
  }

  -- one block more
  pub rests_more : (journal after : Journal) (old new : V) (body : List ℕ) (events more : List Event) → file_of after.log ≡ journal_file
      → ((bodies : List (List ℕ)) → IsAtRest of journal.log old bodies → IsAtRest of after.log new (bodies ++ body ∷ []))
      → Rests of journal old events → IsSpelled more body → Rests of after new (events ++ more)
  rests_more journal after old new body events more is goes rests own =
      let push = lines-push rests.bodies body events more rests.gates rests.lines own in
      record { file = is; bodies = rests.bodies ++ body ∷ []; log = goes rests.bodies rests.log; gates = push.0; lines = push.1 }

  pub rests_on_ok : {E : Type 0} (journal after : Journal) (old new : V) (body : List ℕ) (result : Result (Unit {0}) E) → file_of after.log ≡ file_of journal.log
      → OnOk result ((bodies : List (List ℕ)) → IsAtRest of journal.log old bodies → IsAtRest of after.log new (bodies ++ body ∷ []))
      → OnOk result ((events more : List Event) → Rests of journal old events → IsSpelled more body → Rests of after new (events ++ more))
  rests_on_ok journal after old new body result same ok =
      on_ok_weaker result (λ goes events more rests own. rests_more journal after old new body events more (same ∙ rests.file) goes rests own) ok

  -- what a crash leaves of it meanwhile
  pub leaves_more : (journal : Journal) (old new : V) (body : List ℕ) (events more : List Event) → Rests of journal old events → IsSpelled more body
      → ((bodies : List (List ℕ)) → IsAtRest of journal.log old bodies → LeavesOnly of old new (After (file_of journal.log) (CountsOneMore bodies body) (of.may_leave old)))
      → LeavesOnly of old new (After journal_file (HoldsMore events more) (of.may_leave old))
  leaves_more journal old new body events more rests own leaves =
      let run = subst (λ (f : FileId). LeavesOnly of old new (After f (CountsOneMore rests.bodies body) (of.may_leave old))) rests.file (leaves rests.bodies rests.log) in
      weaker of old new (After journal_file (CountsOneMore rests.bodies body) (of.may_leave old)) (After journal_file (HoldsMore events more) (of.may_leave old))
      (after_as journal_file (CountsOneMore rests.bodies body) (HoldsMore events more) (of.may_leave old) (λ before after. count_more rests.bodies body events more rests.gates before after rests.lines own)) run

  -- an opening keeps events
  pub leaves_kept : (old new : V) → LeavesOnly of old new (After journal_file KeepsCount (of.may_leave old)) → LeavesOnly of old new (After journal_file KeepsEvents (of.may_leave old))
  leaves_kept old new run =
      weaker of old new (After journal_file KeepsCount (of.may_leave old)) (After journal_file KeepsEvents (of.may_leave old))
      (after_as journal_file KeepsCount KeepsEvents (of.may_leave old) count_keeps) run

  -- its file holds the events
  pub rests_holds : (journal : Journal) (volume : V) (events : List Event) → Rests of journal volume events → HoldsEvents events (of.contents volume journal_file)
  rests_holds journal volume events rests =
      let ends = subst (λ (f : FileId). EndsAt rests.bodies (of.contents volume f)) rests.file rests.log.ends in
      (rests.gates, counted_holds rests.bodies events rests.gates (of.contents volume journal_file) (ends_counts rests.bodies (of.contents volume journal_file) ends) rests.lines)

  pub rests_settled : (journal : Journal) (volume : V) (events : List Event) → Rests of journal volume events → IsSettled of volume (λ i. HoldsEvents events (i journal_file))
  rests_settled journal volume events rests =
      let only = subst (λ (f : FileId). Only f (of.contents volume f) (of.may_leave volume)) rests.file rests.log.disk.only in
      record {
        tells = rests.log.disk.tells;
        each = λ i left. subst (λ (bytes : List ℕ). HoldsEvents events bytes) (sym (only i left)) (rests_holds journal volume events rests);
      }

  pub rests_last : (journal : Journal) (before after : V) (events : List Event) → Rests of journal before events → of.tells after ≡ of.tells before → of.contents after journal_file ≡ of.contents before journal_file
      → Only journal_file (of.contents after journal_file) (of.may_leave after) → Rests of journal after events
  rests_last journal before after events rests tells same only =
      let back = sym rests.file in
      record {
        file = rests.file;
        bodies = rests.bodies;
        log = record {
          disk = record {
            tells = tells ∙ rests.log.disk.tells;
            only = subst (λ (f : FileId). Only f (of.contents after f) (of.may_leave after)) back only;
          };
          ends = subst (λ (bytes : List ℕ). EndsAt rests.bodies bytes) (sym (subst (λ (f : FileId). of.contents after f ≡ of.contents before f) back same)) rests.log.ends;
          place = rests.log.place;
        };
        gates = rests.gates;
        lines = rests.lines;
      }
