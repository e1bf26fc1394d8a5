-- What is counted of a key, of a class and of the whole history.
--     vain_tries h key, try_number h key      the tries in vain since the key was last added, and one more
--     budget_spent h class, is_retired s h class      what counts against the budget of a host
--     pages h, bytes_in h      what the limits of the job look at
--     is_limit_met s h t      whether a limit of the job is met
use Rattle.std.specs.Prelude.{ℕ, ◌+◌, ◌-◌, ◌/◌, Bool, false, not, ◌&&◌, ◌||◌, nat_le, ◌==◌, List, Option, Some, None, unwrap_or, option_map, bytes_eq, find, count_by, sum_by, if◌then◌else◌}
use Rattle.std.specs.List.{list_any}
use Rattle.std.specs.Ordering.{int_eq}
use Rattle.crawl_kinds.specs.declared.event.Body.{Body}
use Rattle.crawl_kinds.specs.declared.settings.Settings.{Settings}
use Rattle.crawl_kinds.specs.Event.{finish_of, Finishing}
use Rattle.crawl_history.specs.Scans.{after_last}
use Rattle.crawl_history.specs.Codes.{robots_needed}
use Rattle.crawl_history.specs.History.{History, finishes, first_time}
use Rattle.crawl_history.specs.Places.{has_key, adds_key}
use Rattle.crawl_history.specs.Queues.{in_class}
use Rattle.crawl_history.specs.Outcomes.{is_retry, is_success, is_success_or_failure, is_prerequisite}

-- whether this is a try of the key in vain; an item that needs its robots file first was not tried
abbrev pub is_vain_finish : List ℕ → Option Finishing → Bool
is_vain_finish key None = false
is_vain_finish key (Some c) = has_key key c.item && is_retry c.end.outcome && not (int_eq c.end.code robots_needed)

-- the tries that the snapshot counts
abbrev pub vain_tries_in : History → List ℕ → ℕ
vain_tries_in h key = unwrap_or (option_map (λ w. w.tries) (find (λ w. has_key key w.item) h.base.waiting)) 0

-- how often the key was tried in vain since it was last added
abbrev pub vain_tries : History → List ℕ → ℕ
vain_tries h key =
    (if list_any (adds_key key) h.events then 0 else vain_tries_in h key)
    + count_by (λ e. is_vain_finish key (finish_of e)) (after_last (adds_key key) h.events)

-- which try of the key comes next, counted from 1
abbrev pub try_number : History → List ℕ → ℕ
try_number h key = vain_tries h key + 1

-- whether the finish is a page of the class that was fetched or failed; a robots file costs nothing
abbrev pub costs_budget : List ℕ → Finishing → Bool
costs_budget class c = in_class class c.item && is_success_or_failure c.end.outcome && not (is_prerequisite c.item)

-- what the class has spent
abbrev pub budget_spent : History → List ℕ → ℕ
budget_spent h class =
    unwrap_or (option_map (λ s. s.spent) (find (λ s. bytes_eq s.class class) h.base.spent)) 0
    + count_by (costs_budget class) (finishes h)

-- whether there is a limit and the number meets it; 0 is no limit
abbrev pub is_met : ℕ → ℕ → Bool
is_met limit n = not (limit == 0) && nat_le limit n

-- whether the class has spent its budget
abbrev pub is_retired : Settings → History → List ℕ → Bool
is_retired s h class = is_met s.host_budget (budget_spent h class)

-- whether the finish is a page that was fetched
abbrev pub is_page : Finishing → Bool
is_page c = is_success c.end.outcome && not (is_prerequisite c.item)

-- the pages that were fetched
abbrev pub pages : History → ℕ
pages h = h.base.pages + count_by is_page (finishes h)

-- the size of what was recorded
abbrev pub size_of : Option Body → ℕ
size_of None = 0
size_of (Some body) = body.size

-- the bytes that the finish recorded
abbrev pub bytes_of : Finishing → ℕ
bytes_of c = size_of c.end.body

-- the bytes of all that was fetched, robots files too
abbrev pub bytes_in : History → ℕ
bytes_in h = h.base.bytes + sum_by bytes_of (finishes h)

-- whether a limit of the job is met: of pages, of bytes or of whole seconds since the first session
abbrev pub is_limit_met : Settings → History → ℕ → Bool
is_limit_met s h t =
    is_met s.max_pages (pages h) || is_met s.max_bytes (bytes_in h) || is_met s.max_seconds ((t - first_time h) / 1000)
