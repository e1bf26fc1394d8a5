-- What an emit answers.
--     live_classes s h      the classes with a waiting item and budget left
--     ready f a h t      those of them that may be asked at t
--     answer f a h t      an item, nothing before some time, or over
use Rattle.std.specs.Prelude.{ℕ, Bool, true, false, not, ◌&&◌, ◌||◌, nat_le, nat_lt, ◌==◌, List, [], ◌∷◌, map, filter, Option, Some, None, is_none, option_map, option_and_then, if◌then◌else◌}
use Rattle.std.specs.Ordering.{nat_cmp}
use Rattle.std.specs.Cmp.Lexicographic.{slice_cmp}
use Rattle.std.specs.declared.cmp.Ordering.{Ordering}
use Rattle.std.specs.declared.cmp.Ordering.TheVariants.{Less, Equal, Greater}
use Rattle.crawl_kinds.specs.declared.settings.Settings.{Settings}
use Rattle.crawl_kinds.specs.declared.item.Item.{Item}
use Rattle.crawl_history.specs.Scans.{first_of, least_of}
use Rattle.crawl_history.specs.History.{History}
use Rattle.crawl_history.specs.Queues.{queue, waiting_classes}
use Rattle.crawl_history.specs.Counts.{is_retired, is_limit_met}
use Rattle.crawl_history.specs.Tickets.{is_out, emits_out}
use Rattle.crawl_history.specs.Facts.{Facts, Archive}
use Rattle.crawl_history.specs.Waits.{wake}

-- whether a list has no element
abbrev pub is_empty : {X : Type 0} → List X → Bool
is_empty [] = true
is_empty (x ∷ xs) = false

-- the classes with a waiting item that are not retired
abbrev pub live_classes : Settings → History → List (List ℕ)
live_classes s h = filter (λ class. not (is_retired s h class)) (waiting_classes h)

-- a class with its wake
pub record Snoozed : Type 0 where
  pub wake : ℕ
  pub class : List ℕ

-- whether a comparison says less
abbrev pub is_less : Ordering → Bool
is_less Less = true
is_less Equal = false
is_less Greater = false

-- by wake, and where the wakes are equal by the text of the class
abbrev pub goes_before : Snoozed → Snoozed → Bool
goes_before x y = nat_lt x.wake y.wake || (x.wake == y.wake && is_less (slice_cmp nat_cmp x.class y.class))

-- the live classes of which nothing is out, each with its wake
abbrev pub snoozed : Facts → Archive → History → List Snoozed
snoozed f a h =
    map (λ class. record { wake = wake f a h class; class = class })
    (filter (λ class. not (is_out h class)) (live_classes f.settings h))

-- those whose wake has come
abbrev pub ready : Facts → Archive → History → ℕ → List Snoozed
ready f a h t = filter (λ s. nat_le s.wake t) (snoozed f a h)

-- the first item of the ready class that goes first, unless a limit is met
abbrev pub next_work : Facts → Archive → History → ℕ → Option Item
next_work f a h t =
    if is_limit_met f.settings h t
    then None
    else option_and_then (λ s. first_of (queue h s.class)) (least_of goes_before (ready f a h t))

-- nothing may go, nothing is out, and a limit is met or no live class is left
abbrev pub is_over : Facts → Archive → History → ℕ → Bool
is_over f a h t =
    is_none (next_work f a h t) && is_empty (emits_out h)
    && (is_limit_met f.settings h t || is_empty (live_classes f.settings h))

-- the least wake of a live class of which nothing is out, unless a limit is met
abbrev pub next_wake : Facts → Archive → History → ℕ → Option ℕ
next_wake f a h t =
    if is_limit_met f.settings h t
    then None
    else option_map (λ s. s.wake) (least_of goes_before (snoozed f a h))

-- what an emit answers
pub data Answer : Type 0 where
  -- this item goes out
  Gives : (item : Item) → Answer
  -- nothing may go yet; where it is known, from when on something may
  NotYet : (next : Option ℕ) → Answer
  -- nothing will go any more
  Over : Answer

-- the answer, by the item that may go
abbrev pub answer_by : Facts → Archive → History → ℕ → Option Item → Answer
answer_by f a h t (Some item) = Gives item
answer_by f a h t None = if is_over f a h t then Over else NotYet (next_wake f a h t)

-- the answer at t
abbrev pub answer : Facts → Archive → History → ℕ → Answer
answer f a h t = answer_by f a h t (next_work f a h t)
