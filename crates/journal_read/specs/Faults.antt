-- Where a text stops to be that of events.
use Rattle.std.specs.Prelude.{◌≡◌, ◌≢◌, ℕ, ◌+◌, ◌==◌, List, [], ◌∷◌, ◌++◌, count_by, if◌then◌else◌}
use Rattle.crawl_kinds.specs.declared.event.Event.{Event}
use Rattle.journal_spec.specs.Journal.{line_feed}
use Rattle.journal_valid.specs.Valid.{IsSpelled}

-- up to and with the first line feed, or all where there is none
abbrev pub first_line : List ℕ → List ℕ
first_line [] = []
first_line (b ∷ bytes) = if b == line_feed then b ∷ [] else b ∷ first_line bytes

-- the n-th line, counted from 1, is the first with which the text is not that of events: the lines before it are those
-- of valid events, and with this one they are not
pub record IsBadLine (n : ℕ) (text : List ℕ) : Type 0 where
  pub before : List ℕ
  pub behind : List ℕ
  pub whole : text ≡ before ++ behind
  pub some : behind ≢ []
  pub number : n ≡ 1 + count_by (λ b. b == line_feed) before
  pub events : List Event
  pub good : IsSpelled events before
  pub bad : (others : List Event) → IsSpelled others (before ++ first_line behind) → ⊥
