-- How an item that was handed out may end, by its verdict and by what went over the link.
--     Ends w work ending reply seen      the work ended so, with this reply or none
--     Ended w work before after ending reply      and that is what the link has more than before
--     IsOfFault fault ending      the ending names this fault of the link
use Rattle.std.specs.Prelude.{◌≡◌, ◌⊎◌, ℕ, Bool, false, IsTrue, List, [], ◌∷◌, ◌++◌, Option, Some, None}
use Rattle.crawl_kinds.specs.declared.event.Fetch.{Fetch}
use Rattle.crawl_kinds.specs.declared.event.Verdict.TheVariants.{Allowed}
use Rattle.crawl_kinds.specs.declared.item.Work.{Work}
use Rattle.crawl_kinds.specs.declared.settings.Settings.{Settings}
use Rattle.crawl_traits.specs.declared.link.Exchange.{Exchange}
use Rattle.crawl_traits.specs.declared.link.Link.{Ghosts}
use Rattle.crawl_traits.specs.declared.link.LinkFault.{LinkFault}
use Rattle.crawl_traits.specs.Causes.{Rose}
use Rattle.crawl_history.specs.Codes as codes_of
use Rattle.http_fetch.specs.Fetching.{IsSpanOf}
use Rattle.http_message.specs.declared.front.Reply.{Reply}
use Rattle.page_spec.specs.Outcome.{Answered, IsTo, Unanswered}
use Rattle.process_chains.specs.Done.{IsReply}
use Rattle.process_chains.specs.Endings.{answered, code_of, faulty, headless, unfetched}
use Rattle.process_chains.specs.declared.ending.Ending.{Ending}

-- what work is processed under: the moments that the clock gives, the faults whose counts rose, whether the link tells
-- what went over it, whether it has a connection then, and the settings
pub record World : Type 1 where
  pub gives : ℕ → Type 0
  pub rose : LinkFault → Type 0
  pub tells : Bool
  pub connected : Bool
  pub settings : Settings

-- that of a link from one state to another
abbrev pub world : {L : Type 0} → Ghosts L → (ℕ → Type 0) → Settings → L → L → World
world of gives settings start now =
    record {
      gives = gives;
      rose = λ fault. Rose (of.faults start fault) (of.faults now fault);
      tells = of.tells start;
      connected = of.connected now;
      settings = settings;
    }

-- the verdict allows no fetch, and no connection was made
pub record IsUnfetched (work : Work) (ending : Ending) (reply : Option Reply) (seen : List Exchange) : Type 0 where
  pub ends : unfetched work.verdict work.tries ≡ Some ending
  pub nothing : reply ≡ None
  pub told : seen ≡ []

-- the link gave a whole response on one connection to the address's host and port, or to the proxy's, after it took the
-- request
pub record IsAnswered (w : World) (work : Work) (ending : Ending) (reply : Option Reply) (seen : List Exchange) : Type 0 where
  pub span : Fetch
  pub one : Reply
  pub came : reply ≡ Some one
  pub whole : IsReply w.settings.max_response_bytes one
  pub timed : IsSpanOf w.gives span
  pub ends : ending ≡ answered one.status span work.tries
  pub told : IsTrue w.tells → (e : Exchange) × (seen ≡ e ∷ []) × Answered work.item.uri w.settings e one.block

-- a call on the link failed, and its count of that fault rose; there was no connection, or one to that host and port
pub record IsFaulty (w : World) (work : Work) (ending : Ending) (reply : Option Reply) (seen : List Exchange) : Type 0 where
  pub span : Fetch
  pub fault : LinkFault
  pub rises : w.rose fault
  pub timed : IsSpanOf w.gives span
  pub ends : ending ≡ faulty fault span work.tries w.settings.max_tries
  pub nothing : reply ≡ None
  pub told : IsTrue w.tells → (seen ≡ []) ⊎ ((e : Exchange) × (seen ≡ e ∷ []) × IsTo work.item.uri w.settings e)

-- the link took the request, and the bytes that it gave are no whole response and can't become one, or the peer's end
-- came before one
pub record IsHeadless (w : World) (work : Work) (ending : Ending) (reply : Option Reply) (seen : List Exchange) : Type 0 where
  pub span : Fetch
  pub timed : IsSpanOf w.gives span
  pub ends : ending ≡ headless span work.tries
  pub nothing : reply ≡ None
  pub told : IsTrue w.tells → (e : Exchange) × (seen ≡ e ∷ []) × Unanswered work.item.uri w.settings e

-- the verdict allows a fetch, which ended in one of three ways, and no connection is left
pub record IsFetched (w : World) (work : Work) (ending : Ending) (reply : Option Reply) (seen : List Exchange) : Type 0 where
  pub allowed : work.verdict ≡ Allowed
  pub shut : IsTrue w.tells → w.connected ≡ false
  pub how : IsAnswered w work ending reply seen ⊎ (IsFaulty w work ending reply seen ⊎ IsHeadless w work ending reply seen)

-- what is allowed is fetched, and all else ends without a fetch
abbrev pub Ends : World → Work → Ending → Option Reply → List Exchange → Type 0
Ends w work ending reply seen = IsUnfetched work ending reply seen ⊎ IsFetched w work ending reply seen

-- the work ended so, by what went over the link from before to after
pub record Ended (w : World) (work : Work) (before after : List Exchange) (ending : Ending) (reply : Option Reply) : Type 0 where
  pub seen : List Exchange
  pub ends : Ends w work ending reply seen
  pub went : IsTrue w.tells → after ≡ before ++ seen

-- its code is the fault's, or that of the last try with the fault's as its cause
abbrev pub IsOfFault : LinkFault → Ending → Type 0
IsOfFault fault ending =
    (ending.code ≡ code_of fault) ⊎ ((ending.code ≡ codes_of.too_many_tries) × (ending.notes.cause ≡ code_of fault))
