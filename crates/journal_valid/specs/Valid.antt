-- Valid events: their lines are allowed in format 1 of the journal, and determine all their fields.
--     IsEvent e      a valid event
--     IsSpelled events text      the text is the lines of these events, all of which are valid
use Rattle.std.specs.Prelude.{◌≡◌, ℕ, ◌<◌, ◌≤◌, ◌^◌, List, length, flat_map, IsTrue}
use Rattle.std.specs.List.{AllByRecursion}
use Rattle.crawl_kinds.specs.declared.event.TheConstants.{MAX_MS}
use Rattle.crawl_kinds.specs.declared.event.Event.{Event}
use Rattle.crawl_kinds.specs.declared.event.Event.TheVariants.{Session, Seeds, Emit, Finish}
use Rattle.crawl_kinds.specs.Text.{is_text, is_visible}
use Rattle.journal_spec.specs.Journal.{spelling}
use Rattle.journal_valid.specs.Items.{IsAddress, IsItem, IsAdd}
use Rattle.journal_valid.specs.Ends.{IsEnd}

-- the name of a job, and the number of a format
pub record IsSession (job : List ℕ) (format : ℕ) : Type 0 where
  pub named : 1 ≤ length job
  pub visible : IsTrue (is_text is_visible 2200 job)
  pub numbered : format < 2 ^ 32

-- a time, one of 32 callers, and a ticket
pub record IsTicket (time caller ticket : ℕ) : Type 0 where
  pub in_time : time ≤ MAX_MS
  pub among_callers : caller ≤ 31
  pub in_range : ticket < 2 ^ 64

-- a valid event
abbrev pub IsEvent : Event → Type 0
IsEvent (Session time job format) = (time ≤ MAX_MS) × IsSession job format
IsEvent (Seeds time list adds) = (time ≤ MAX_MS) × AllByRecursion IsAddress list × AllByRecursion IsAdd adds
IsEvent (Emit time caller ticket verdict item) = IsTicket time caller ticket × IsItem item
IsEvent (Finish time caller ticket item end adds) = IsTicket time caller ticket × IsItem item × IsEnd end × AllByRecursion IsAdd adds

-- the lines of valid events, joined
pub record IsSpelled (events : List Event) (text : List ℕ) : Type 0 where
  pub valid : AllByRecursion IsEvent events
  pub spelled : flat_map spelling events ≡ text
