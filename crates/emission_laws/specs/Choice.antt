-- Which of the adds that wait goes next.
--     add_at key x      the add, where it adds the key
--     may_go s h x      whether an add that waits may go at the wake of its class
--     going_order wakes x y, goes_first wakes x y      the order in which adds go, by the wakes of their classes
--     GoesNext s wakes h x      x waits and may go, and nothing that waits and may go goes before it
use Rattle.std.specs.Prelude.{◌≡◌, ℕ, Bool, true, false, not, ◌&&◌, List, map, Contains, Option, Some, None, if◌then◌else◌}
use Rattle.std.specs.List.Sorted.{IsStrictlyIncreasing}
use Rattle.std.specs.Ordering.{nat_cmp, is_lt, ordering_then}
use Rattle.std.specs.declared.cmp.Ordering.{Ordering}
use Rattle.std.specs.Cmp.Lexicographic.{slice_cmp}
use Rattle.crawl_kinds.specs.declared.settings.Settings.{Settings}
use Rattle.crawl_history.specs.History.{History}
use Rattle.crawl_history.specs.Places.{has_key}
use Rattle.crawl_history.specs.Queues.{Add, all_adds, waiting_adds}
use Rattle.crawl_history.specs.Counts.{is_retired}
use Rattle.crawl_history.specs.Tickets.{is_out}

-- the add, where it adds the key
abbrev pub add_at : List ℕ → Add → Option Add
add_at key x = if has_key key x.item then Some x else None

-- each add has a greater ordinal than the one before it
abbrev pub OrdinalsRise : History → Type 0
OrdinalsRise h = IsStrictlyIncreasing (map (λ x. x.ordinal) (all_adds h))

-- the class of the add has budget left, and nothing of it is out
abbrev pub may_go : Settings → History → Add → Bool
may_go s h x = not (is_retired s h x.item.class) && not (is_out h x.item.class)

-- by the wakes of their classes, where those are equal by the texts of the classes, then by rank and by ordinal
abbrev pub going_order : (List ℕ → ℕ) → Add → Add → Ordering
going_order wakes x y =
    ordering_then (nat_cmp (wakes x.item.class) (wakes y.item.class))
    (ordering_then (slice_cmp nat_cmp x.item.class y.item.class)
    (ordering_then (nat_cmp x.item.rank y.item.rank) (nat_cmp x.ordinal y.ordinal)))

-- whether x goes before y
abbrev pub goes_first : (List ℕ → ℕ) → Add → Add → Bool
goes_first wakes x y = is_lt (going_order wakes x y)

-- x waits and may go, and no add that waits and may go goes before it
pub record GoesNext (s : Settings) (wakes : List ℕ → ℕ) (h : History) (x : Add) : Type 0 where
  pub waits : Contains (waiting_adds h) x
  pub may : may_go s h x ≡ true
  pub first : (y : Add) → Contains (waiting_adds h) y → may_go s h y ≡ true → goes_first wakes y x ≡ false

-- no add that waits may go
abbrev pub NoneMayGo : Settings → History → Type 0
NoneMayGo s h = (y : Add) → Contains (waiting_adds h) y → may_go s h y ≡ false
