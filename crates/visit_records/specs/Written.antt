-- What is written of an item that was handed out and came to its end.
--     IsTurn events      its emit and its finish, which can stand in one block
--     Kept ..      its record stands at the end of its file, and the journal holds these events
--     IsCitedWhole ..      the journal is as it was, or the record stands
use Rattle.std.specs.Prelude.{◌≡◌, ◌⊎◌, ℕ, ◌+◌, ◌≤◌, List, [], ◌∷◌, ◌++◌, length}
use Rattle.crawl_kinds.specs.declared.event.Event.{Event}
use Rattle.crawl_kinds.specs.Event.{Finishing}
use Rattle.crawl_traits.specs.declared.file.FileId.{FileId}
use Rattle.crawl_traits.specs.declared.volume.Volume.{Ghosts}
use Rattle.extract_spec.specs.Links.{most_links}
use Rattle.frontier_core.specs.Emitting.{emit_event}
use Rattle.frontier_core.specs.Finishing.{finish_event}
use Rattle.frontier_core.specs.declared.emitted.Emitted.{Emitted}
use Rattle.journal_valid.specs.Valid.{IsEvent}
use Rattle.recover_journal.specs.Holds.{journal_file}
use Rattle.recover_journal.specs.Rest.{Rests}
use Rattle.recover_journal.specs.declared.journal.Journal.{Journal}
use Rattle.visit_spec.specs.Crawled.{Others}

-- the emit and the finish of an item, which adds at most one item more than a response has links
pub record IsTurn (events : List Event) : Type 0 where
  pub one : Emitted
  pub c : Finishing
  pub are : events ≡ emit_event one ∷ finish_event c ∷ []
  pub emit : IsEvent (emit_event one)
  pub finish : IsEvent (finish_event c)
  pub few : length c.adds ≤ most_links + 1

-- the file gained the record, the journal holds these events, and no other file changed
pub record Kept {V : Type 0} (of : Ghosts V) (journal : Journal) (old new : V) (file : FileId) (held : List Event) (bytes : List ℕ) : Type 0 where
  pub rests : Rests of journal new held
  pub grown : of.contents new file ≡ of.contents old file ++ bytes
  pub others : Others file (of.contents old) (of.contents new)

-- the journal is as it was, or the file gained the whole record
abbrev pub IsCitedWhole : {V : Type 0} → Ghosts V → V → V → FileId → List ℕ → Type 0
IsCitedWhole of old new file bytes =
    (of.contents new journal_file ≡ of.contents old journal_file) ⊎ (of.contents new file ≡ of.contents old file ++ bytes)
