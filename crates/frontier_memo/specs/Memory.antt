-- What is kept beside events, so that no call scans them.
--     Tells h key kept      what is kept of the key is what the history says
--     RemembersSession h session, RemembersCounts h counts      the same of what the session did, and of what was counted
--     Remembers h memo      the same of all that is kept
use Rattle.std.specs.Prelude.{◌≡◌, ℕ, ◌+◌, ◌≤◌, List, map, length, Option, Some, IfSome, option_map}
use Rattle.std.specs.List.{AllByRecursion}
use Rattle.crawl_kinds.specs.Event.{Emission}
use Rattle.crawl_history.specs.Scans.{last_of}
use Rattle.crawl_history.specs.History.{History, last_time, ticket_count, session_emits, session_finishes, session_time}
use Rattle.crawl_history.specs.Places.{place_of}
use Rattle.crawl_history.specs.Queues.{Add, all_adds, ordinal_count}
use Rattle.crawl_history.specs.Counts.{vain_tries, budget_spent, pages, bytes_in}
use Rattle.crawl_history.specs.Citations.{cited_end}
use Rattle.crawl_history.specs.Tickets.{emits_out}
use Rattle.crawl_history.specs.Waits.{last_finish}
use Rattle.frontier_memo.specs.declared.known.Known.{Known}
use Rattle.frontier_memo.specs.declared.known.Waiting.{Waiting}
use Rattle.frontier_memo.specs.declared.counts.Counts.{Counts}
use Rattle.frontier_memo.specs.declared.session.Out.{Out}
use Rattle.frontier_memo.specs.declared.session.SessionMemo.{SessionMemo}
use Rattle.frontier_memo.specs.declared.memo.Memo.{Memo}
use Rattle.frontier_memo.specs.Outs.{OutsStand}
use Rattle.frontier_memo.specs.Keeping.{known_at, place_by, waiting_by, add_at, add_of}
use Rattle.frontier_memo.specs.Sums.{saturated, saturated_edge, spent_at, last_at, last_by, first_session}

-- the last add of the key
abbrev pub last_add : History → List ℕ → Option Add
last_add h key = last_of (add_at key) (all_adds h)

-- what waits was added last, and tried in vain so often since
pub record TellsWaiting (h : History) (key : List ℕ) (w : Waiting) : Type 0 where
  pub add : last_add h key ≡ Some (add_of w)
  pub tries : w.tries ≡ saturated (vain_tries h key)

-- the place of the key is kept and, where it waits, its last add with the tries in vain since
pub record Tells (h : History) (key : List ℕ) (kept : Option Known) : Type 0 where
  pub place : place_by kept ≡ place_of h key
  pub waiting : IfSome (waiting_by kept) (TellsWaiting h key)

-- an emit that is out, from what is kept of it
abbrev pub emission : Out → Emission
emission out = record { time = out.time; caller = out.caller; ticket = out.ticket; verdict = out.verdict; item = out.item }

-- what the session did
pub record RemembersSession (h : History) (session : SessionMemo) : Type 0 where
  pub start : session.start ≡ session_time h
  -- so many tickets were given before it
  pub earlier : session.earlier + length (session_emits h) ≡ ticket_count h
  pub out : map emission session.out.items ≡ emits_out h
  pub last : (class : List ℕ) → last_at session.last class ≡ option_map last_by (last_finish h class)
  -- a ticket that is out or ended was given
  pub given : AllByRecursion (λ m. m.ticket ≤ ticket_count h) (emits_out h)
  pub ended : AllByRecursion (λ c. c.ticket ≤ ticket_count h) (session_finishes h)

-- what was counted
pub record RemembersCounts (h : History) (counts : Counts) : Type 0 where
  pub spent : (class : List ℕ) → spent_at counts.spent class ≡ saturated (budget_spent h class)
  pub pages : counts.pages ≡ saturated (pages h)
  pub bytes : counts.bytes ≡ saturated (bytes_in h)
  pub end : counts.end ≡ option_map saturated_edge (cited_end h)

-- what is kept is what the history says
pub record Remembers (h : History) (memo : Memo) : Type 0 where
  pub places : (key : List ℕ) → Tells h key (known_at memo.places key)
  pub ordinals : memo.ordinals ≡ ordinal_count h
  pub tickets : memo.tickets ≡ ticket_count h
  pub time : memo.time ≡ last_time h
  pub first : memo.first ≡ first_session h
  pub session : RemembersSession h memo.session
  pub counts : RemembersCounts h memo.counts
  -- and what is out waits
  pub outs : OutsStand h
