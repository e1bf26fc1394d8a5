-- What an emit answers, by the least add that waits and may go, for any facts and any archive.
use Rattle.std.specs.Prelude.{◌≡◌, ◌↔◌, ℕ, true, false, List, nat_le, Contains, Some, None, if◌then◌else◌}
use Rattle.std.specs.Cmp.{IsTotalOrder}
use Rattle.crawl_kinds.specs.declared.event.Event.{Event}
use Rattle.crawl_history.specs.History.{History, history_of}
use Rattle.crawl_history.specs.Places.{place_of, is_waiting}
use Rattle.crawl_history.specs.Queues.{Add, all_adds, waiting_adds}
use Rattle.crawl_history.specs.Scans.{last_of}
use Rattle.crawl_history.specs.Counts.{is_limit_met}
use Rattle.crawl_history.specs.Tickets.{emits_out}
use Rattle.crawl_history.specs.Facts.{Facts, Archive}
use Rattle.crawl_history.specs.Waits.{wake}
use Rattle.crawl_history.specs.Emission.{Answer, Gives, NotYet, Over, answer, is_over, is_empty}
use Rattle.emission_laws.specs.Choice.{add_at, OrdinalsRise, may_go, going_order, GoesNext, NoneMayGo}

-- the item goes where its class's wake is due, else nothing goes before that wake
abbrev pub answer_at : ℕ → ℕ → Add → Answer
answer_at due t x = if nat_le due t then Gives x.item else NotYet (Some due)

-- nothing goes: it is over where nothing is out, else no time is known from when on something may go
pub record NothingGoes (f : Facts) (a : Archive) (h : History) (t : ℕ) : Type 0 where
  pub answered : answer f a h t ≡ (if is_empty (emits_out h) then Over else NotYet None)
  pub over : is_over f a h t ≡ is_empty (emits_out h)

pub record AnswerByLeast : Type 0 where
  -- nothing goes where a limit is met, or where no add that waits may go
  pub limited : (f : Facts) (a : Archive) (h : History) (t : ℕ) → is_limit_met f.settings h t ≡ true → NothingGoes f a h t
  pub idle : (f : Facts) (a : Archive) (h : History) (t : ℕ) → NoneMayGo f.settings h → NothingGoes f a h t
  -- else the least add that waits and may go decides
  pub least :
      (f : Facts) (a : Archive) (h : History) (t : ℕ) (x : Add)
      → is_limit_met f.settings h t ≡ false → OrdinalsRise h → GoesNext f.settings (wake f a h) h x
      → answer f a h t ≡ answer_at (wake f a h x.item.class) t x
  -- and it is not over, as it never is while something is out
  pub live :
      (f : Facts) (a : Archive) (h : History) (t : ℕ) (x : Add)
      → is_limit_met f.settings h t ≡ false → Contains (waiting_adds h) x → may_go f.settings h x ≡ true → is_over f a h t ≡ false
  pub out : (f : Facts) (a : Archive) (h : History) (t : ℕ) → is_empty (emits_out h) ≡ false → is_over f a h t ≡ false
  -- an add waits exactly where its key does and was last added with it
  pub waits :
      (h : History) (x : Add) → OrdinalsRise h
      → Contains (waiting_adds h) x ↔ ((is_waiting (place_of h x.item.key) ≡ true) × (last_of (add_at x.item.key) (all_adds h) ≡ Some x))
  -- the ordinals of a history from the start rise
  pub ordinals : (events : List Event) → OrdinalsRise (history_of events)
  -- whatever the wakes are, the order in which adds go is one
  pub order : (wakes : List ℕ → ℕ) → IsTotalOrder (going_order wakes)
