-- From when on a class may be asked, by what is kept, is its wake by the history.
use Rattle.std.proofs.Common.{◌≡◌, ℕ, ◌+◌, Bool, true, false, List, [], ◌∷◌, length, refl, sym, ◌∙◌, ap, arith, Option, Some, None, nat_lt}
use Rattle.std.specs.Prelude.{option_map, unwrap_or, if◌then◌else◌}
use Rattle.std.specs.Option.{option_or}
use Rattle.std.proofs.lemmas.Slice.Eq.{bytes_eq-Decides}
use Rattle.crawl_kinds.specs.declared.event.Fetch.{Fetch}
use Rattle.crawl_kinds.specs.declared.event.Outcome.{Outcome}
use Rattle.crawl_kinds.specs.Event.{Finishing}
use Rattle.crawl_history.specs.Facts.{Facts, Archive}
use Rattle.crawl_history.specs.History.{History, session_emits, session_finishes, session_time, ticket_count}
use Rattle.crawl_history.specs.Queues.{in_class}
use Rattle.crawl_history.specs.Robots.{RobotsState, robots_state}
use Rattle.crawl_history.specs.Scans.{last_of}
use Rattle.crawl_history.specs.Verdicts.{delay_by}
use Rattle.crawl_history.specs.Waits.{capped, wait_by, wait_after, first_wake, last_finish, wake}
use Rattle.core_facts.specs.CoreFacts.{Pages}
use Rattle.frontier_core.specs.Choosing.{kept_wait, wake_after, wake_before, kept_wake}
use Rattle.frontier_core.specs.Core.{Core, history, facts, robots_at}
use Rattle.frontier_core.specs.Robots.{kept_delay}
use Rattle.frontier_core.specs.Standing.{Stands}
use Rattle.frontier_memo.specs.Memory.{RemembersSession}
use Rattle.frontier_memo.specs.Sums.{last_by}
use Rattle.frontier_memo.specs.declared.session.SessionMemo.{SessionMemo}

-- the wait by the state of the robots rules, where the delay is what it asks for
same_wait : (f : Facts) (state : RobotsState) (delay : Option ℕ) (outcome : Outcome) (fetch : Option Fetch) → delay_by f state ≡ delay → wait_by f state outcome fetch ≡ kept_wait f.settings delay outcome fetch
same_wait f state delay outcome None is = refl
same_wait f state delay outcome (Some fetch) is = ap (λ d. kept_wait f.settings d outcome (Some fetch)) is

-- the last finish of a class is of the class
last_in_class : (class : List ℕ) (ends : List Finishing) (c : Finishing) → last_of (λ c. if in_class class c.item then Some c else None) ends ≡ Some c → c.item.class ≡ class
last_in_class class [] c e = cc
last_in_class class (d ∷ ends) c e = by_last (last_of (λ c. if in_class class c.item then Some c else None) ends) (in_class class d.item) refl e (last_in_class class ends c)
  where
    by_last : (o : Option Finishing) (b : Bool) → in_class class d.item ≡ b → option_or o (if b then Some d else None) ≡ Some c → (o ≡ Some c → c.item.class ≡ class) → c.item.class ≡ class
    by_last (Some z) b is e more = more e
    by_last None true is e more = let same : c ≡ d = cc in ap (λ (c : Finishing). c.item.class) same ∙ (bytes_eq-Decides d.item.class class).0 is
    by_last None false is e more = cc

less_from_sum : (e l t : ℕ) → e + l ≡ t → nat_lt l t ≡ nat_lt 0 e
less_from_sum e l t is = grind arith

-- the wake of a class that was not asked in this session
first_wakes : (f : Facts) (h : History) (session : SessionMemo) → RemembersSession h session → first_wake f.settings h ≡ wake_before f.settings session
first_wakes f h session is =
    ap (λ b. if b then capped (session_time h + f.settings.min_delay_ms) else 0) (less_from_sum session.earlier (length (session_emits h)) (ticket_count h) is.earlier)
    ∙ ap (λ start. if nat_lt 0 session.earlier then capped (start + f.settings.min_delay_ms) else 0) (sym is.start)

pub wakes : (pages : Pages) (a : Archive) (core : Core) (session : SessionMemo) → RemembersSession (history core) session → Stands pages a core → (class : List ℕ) → kept_wake core.settings session (robots_at core) class ≡ wake (facts core pages) a (history core) class
wakes pages a core session is stands class =
    ap (λ o. unwrap_or (option_map (wake_after core.settings (robots_at core class)) o) (wake_before core.settings session)) (is.last class)
    ∙ by_last (last_finish (history core) class) refl
    ∙ ap (λ n. unwrap_or (option_map (λ c. capped (c.time + wait_after (facts core pages) a (history core) c)) (last_finish (history core) class)) n) (sym (first_wakes (facts core pages) (history core) session is))
  where
    by_last :
        (o : Option Finishing) → last_finish (history core) class ≡ o
        → unwrap_or (option_map (wake_after core.settings (robots_at core class)) (option_map last_by o)) (wake_before core.settings session)
        ≡ unwrap_or (option_map (λ c. capped (c.time + wait_after (facts core pages) a (history core) c)) o) (wake_before core.settings session)
    by_last None at = refl
    by_last (Some c) at =
        let own : c.item.class ≡ class = last_in_class class (session_finishes (history core)) c at in
        let delay : delay_by (facts core pages) (robots_state (facts core pages) a (history core) c.item.class c.time) ≡ kept_delay (robots_at core class) c.time =
        ap (λ k. delay_by (facts core pages) (robots_state (facts core pages) a (history core) k c.time)) own ∙ (stands class).delays c.time in
        ap (λ n. capped (c.time + n)) (sym (same_wait (facts core pages) (robots_state (facts core pages) a (history core) c.item.class c.time) (kept_delay (robots_at core class) c.time) c.end.outcome c.end.fetch delay))
