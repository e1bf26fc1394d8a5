-- What one more event does to each scan of a history, whatever the history and its snapshot are.
use Rattle.std.specs.Prelude.{◌≡◌, ℕ, ◌+◌, max, Bool, List, [], ◌++◌, Option, unwrap_or, option_to_list, length, filter, not, count_by, sum_by, if◌then◌else◌}
use Rattle.crawl_kinds.specs.declared.event.Event.{Event}
use Rattle.crawl_kinds.specs.Event.{time_of, adds_of, session_of, emit_of, finish_of, Emission, Finishing}
use Rattle.crawl_history.specs.Scans.{last_of}
use Rattle.crawl_history.specs.History.{History, with_event, is_session, session_emits, session_finishes, session_time, last_time, ticket_count}
use Rattle.crawl_history.specs.Places.{place_of, place_by, adds_key}
use Rattle.crawl_history.specs.Queues.{all_adds, adds_from, ordinal_count, ordinal_of, ordinal_at}
use Rattle.crawl_history.specs.Counts.{vain_tries, is_vain_finish, budget_spent, costs_budget, pages, is_page, bytes_in, bytes_of}
use Rattle.crawl_history.specs.Citations.{cited_end, edge_of, edge_or}
use Rattle.crawl_history.specs.Tickets.{emits_out, is_ended}

-- 1 where it holds, else 0
abbrev pub one_if : Bool → ℕ
one_if b = if b then 1 else 0

-- whether an event with this finish ends the emit
abbrev pub ends_emit : Option Finishing → Emission → Bool
ends_emit o m = is_ended (option_to_list o) m

-- what an event with this emit puts out: the emit, where no finish of the session has its ticket
abbrev pub out_by : History → Option Emission → List Emission
out_by h o = filter (λ m. not (is_ended (session_finishes h) m)) (option_to_list o)

pub record ScansStep : Type 0 where
  -- the event says where its keys are, every other key stays where it was
  pub place : (h : History) (e : Event) (key : List ℕ) → place_of (with_event h e) key ≡ unwrap_or (place_by key e) (place_of h key)
  -- its adds take the next ordinals
  pub adds : (h : History) (e : Event) → all_adds (with_event h e) ≡ all_adds h ++ adds_from (ordinal_count h + 1) (adds_of e)
  pub ordinals : (h : History) (e : Event) → ordinal_count (with_event h e) ≡ ordinal_count h + length (adds_of e)
  pub ordinal :
      (h : History) (e : Event) (key : List ℕ)
      → ordinal_of (with_event h e) key ≡ unwrap_or (last_of (ordinal_at key) (adds_from (ordinal_count h + 1) (adds_of e))) (ordinal_of h key)
  -- times and tickets
  pub time : (h : History) (e : Event) → last_time (with_event h e) ≡ max (last_time h) (time_of e)
  pub session : (h : History) (e : Event) → session_time (with_event h e) ≡ unwrap_or (session_of e) (session_time h)
  pub tickets : (h : History) (e : Event) → ticket_count (with_event h e) ≡ ticket_count h + length (option_to_list (emit_of e))
  -- with a session nothing is left; else an emit, a finish is one more, and a finish ends the emits with its ticket
  pub emits : (h : History) (e : Event) → session_emits (with_event h e) ≡ (if is_session e then [] else session_emits h ++ option_to_list (emit_of e))
  pub ends : (h : History) (e : Event) → session_finishes (with_event h e) ≡ (if is_session e then [] else session_finishes h ++ option_to_list (finish_of e))
  pub out :
      (h : History) (e : Event)
      → emits_out (with_event h e) ≡ (if is_session e then [] else filter (λ m. not (ends_emit (finish_of e) m)) (emits_out h) ++ out_by h (emit_of e))
  -- counts grow by a finish, tries begin anew with an add
  pub tries : (h : History) (e : Event) (key : List ℕ) → vain_tries (with_event h e) key ≡ (if adds_key key e then 0 else vain_tries h key + one_if (is_vain_finish key (finish_of e)))
  pub spent :
      (h : History) (e : Event) (class : List ℕ) → budget_spent (with_event h e) class ≡ budget_spent h class + count_by (costs_budget class) (option_to_list (finish_of e))
  pub pages_more : (h : History) (e : Event) → pages (with_event h e) ≡ pages h + count_by is_page (option_to_list (finish_of e))
  pub bytes_more : (h : History) (e : Event) → bytes_in (with_event h e) ≡ bytes_in h + sum_by bytes_of (option_to_list (finish_of e))
  -- the last cited end is that of the finish, where it has one
  pub cited : (h : History) (e : Event) → cited_end (with_event h e) ≡ edge_or (last_of edge_of (option_to_list (finish_of e))) (cited_end h)
