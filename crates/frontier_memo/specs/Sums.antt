-- What is kept of classes, and sums that stop where 64 bits end.
--     saturated n      the number, or the greatest that is kept
--     spent_at map class, last_at map class      what a class has spent, its last finish
--     first_session h      the time of the first session of all
use Rattle.std.specs.Prelude.{ℕ, ◌-◌, ◌^◌, min, ◌==◌, List, Option, Some, None, unwrap_or, filter_map, if◌then◌else◌}
use Rattle.std.specs.Ordering.{nat_cmp}
use Rattle.std.specs.Cmp.Lexicographic.{slice_cmp}
use Rattle.std.specs.BTreeMap.{BTreeMap, get}
use Rattle.crawl_kinds.specs.declared.snapshot.Edge.{Edge}
use Rattle.crawl_kinds.specs.Event.{session_of, Finishing}
use Rattle.crawl_history.specs.Scans.{first_of}
use Rattle.crawl_history.specs.History.{History}
use Rattle.frontier_memo.specs.declared.session.Last.{Last}

-- the number, or the greatest that is kept
abbrev pub saturated : ℕ → ℕ
saturated n = min n (2 ^ 64 - 1)

-- the same for the end of a record
abbrev pub saturated_edge : Edge → Edge
saturated_edge edge = record { file = edge.file; end = saturated edge.end }

-- what is kept of the class
abbrev pub class_at : {X : Type 0} → BTreeMap (List ℕ) X → List ℕ → Option X
class_at map class = get (slice_cmp nat_cmp) map class

-- what the class has spent
abbrev pub spent_at : BTreeMap (List ℕ) ℕ → List ℕ → ℕ
spent_at map class = unwrap_or (class_at map class) 0

-- the last finish of the class
abbrev pub last_at : BTreeMap (List ℕ) (Option Last) → List ℕ → Option Last
last_at map class = unwrap_or (class_at map class) None

-- what is kept of a finish
abbrev pub last_by : Finishing → Last
last_by c = record { time = c.time; outcome = c.end.outcome; fetch = c.end.fetch }

-- the time of the first session of all
abbrev pub first_session : History → Option ℕ
first_session h = if h.base.events == 0 then first_of (filter_map session_of h.events) else Some h.base.first
