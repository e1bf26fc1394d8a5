-- What becomes of an item, step by step.
--     chain, place step      the steps in order, and which of them one is
--     reached draft      how many of them are behind a draft
--     Stands of gives settings work start now draft      what a draft says is so, with the link from start to now
--     Becomes work settings draft done      what comes of a draft at the end of the chain
use Rattle.std.specs.Prelude.{◌≡◌, ℕ, List, [], ◌∷◌, Option, Some, None}
use Rattle.crawl_kinds.specs.declared.event.Fetch.{Fetch}
use Rattle.crawl_kinds.specs.declared.event.Verdict.TheVariants.{Allowed}
use Rattle.crawl_kinds.specs.declared.item.Work.{Work}
use Rattle.crawl_kinds.specs.declared.settings.Settings.{Settings}
use Rattle.crawl_traits.specs.declared.link.Exchange.{Exchange}
use Rattle.crawl_traits.specs.declared.link.Link.{Ghosts}
use Rattle.http_fetch.specs.declared.page.Fetched.{Fetched}
use Rattle.http_message.specs.declared.front.Reply.{Reply}
use Rattle.page_spec.specs.Request.{request_text}
use Rattle.extract_spec.specs.declared.found.Found.{Found}
use Rattle.process_chains.specs.Done.{AreLinks, Done, IsDone}
use Rattle.process_chains.specs.Endings.{answered, headless, unfetched}
use Rattle.process_chains.specs.Ends.{World, world, Ended}
use Rattle.process_chains.specs.declared.draft.Answer.{Answer}
use Rattle.process_chains.specs.declared.draft.Draft.{Draft}
use Rattle.process_chains.specs.declared.draft.Draft.TheVariants as draft
use Rattle.process_chains.specs.declared.ending.Ending.{Ending}
use Rattle.process_chains.specs.declared.steps.Step.{Step}
use Rattle.process_chains.specs.declared.steps.Step.TheVariants.{AskVerdict, GetBytes, FindLinks}

-- its verdict, its response, the links in that
abbrev pub chain : List Step
chain = AskVerdict ∷ GetBytes ∷ FindLinks ∷ []

-- which step of the chain it is, counted from 0
abbrev pub place : Step → ℕ
place AskVerdict = 0
place GetBytes = 1
place FindLinks = 2

-- how many steps are behind it, at least
abbrev pub reached : Draft → ℕ
reached draft.New = 0
reached draft.MayFetch = 1
reached (draft.Ended ending) = 3
reached (draft.Answered answer) = 2
reached (draft.Searched answer links) = 3

-- what obeying the verdict makes of an item
abbrev pub judged : Option Ending → Draft
judged None = draft.MayFetch
judged (Some ending) = draft.Ended ending

-- a draft after its verdict was asked
abbrev pub asked : Work → Draft → Draft
asked work draft.New = judged (unfetched work.verdict work.tries)
asked work other = other

-- what a fetch with this reply, or with none, makes of an item
abbrev pub with_reply : Fetch → List ℕ → ℕ → Option Reply → Draft
with_reply span request tries None = draft.Ended (headless span tries)
with_reply span request tries (Some reply) =
    draft.Answered (record { ending = answered reply.status span tries; request = request; reply = reply })

abbrev pub draft_of : Fetched → ℕ → Draft
draft_of fetched tries = with_reply fetched.span fetched.request tries fetched.reply

-- the links of the response were found, where one came
abbrev pub IsSearched : Work → Draft → Draft → Type 0
IsSearched work (draft.Answered answer) (draft.Searched same links) = (same ≡ answer) × AreLinks work.item answer.reply links
IsSearched work before after = after ≡ before

-- the work ended with this answer
pub record IsAnswer (w : World) (work : Work) (before after : List Exchange) (answer : Answer) : Type 0 where
  pub ended : Ended w work before after answer.ending (Some answer.reply)
  pub request : answer.request ≡ request_text work.item.uri w.settings

-- the same, where `still` says that the link is as it was
abbrev pub IsDraft : World → Type 0 → Work → List Exchange → List Exchange → Draft → Type 0
IsDraft w still work before after draft.New = still
IsDraft w still work before after draft.MayFetch = still × (work.verdict ≡ Allowed)
IsDraft w still work before after (draft.Ended ending) = Ended w work before after ending None
IsDraft w still work before after (draft.Answered answer) = IsAnswer w work before after answer
IsDraft w still work before after (draft.Searched answer links) =
    IsAnswer w work before after answer × AreLinks work.item answer.reply links

abbrev pub Stands : {L : Type 0} → Ghosts L → (ℕ → Type 0) → Settings → Work → L → L → Draft → Type 0
Stands of gives settings work start now one =
    IsDraft (world of gives settings start now) (now ≡ start) work (of.exchanges start) (of.exchanges now) one

-- what came of work that ended without a whole response, and of work with an answer and its links
abbrev pub ended_done : Work → Settings → Ending → Done
ended_done work settings ending =
    record { work = work; settings = settings; ending = ending; request = []; reply = None; links = [] }

abbrev pub searched_done : Work → Settings → Answer → List Found → Done
searched_done work settings answer links =
    record { work = work; settings = settings; ending = answer.ending; request = answer.request; reply = Some answer.reply; links = links }

-- the chain is at its end, and what came of the work is what is known of any
abbrev pub IsReady : Work → Settings → Draft → Type 0
IsReady work settings (draft.Ended ending) = IsDone (ended_done work settings ending)
IsReady work settings (draft.Searched answer links) = IsDone (searched_done work settings answer links)
IsReady work settings other = ⊥

-- that came of it
abbrev pub Becomes : Work → Settings → Draft → Done → Type 0
Becomes work settings (draft.Ended ending) done = done ≡ ended_done work settings ending
Becomes work settings (draft.Searched answer links) done = done ≡ searched_done work settings answer links
Becomes work settings other done = ⊥
