-- That the history goes on with a visit.
--     IsByHistory old out new v      the core said of emit and finish what the history says
--     VisitGoesOn link gives      so a legal history goes on as one
--     AllowedIsSupported      what the core allows can be asked for
use Rattle.std.specs.Prelude.{◌≡◌, ◌&&◌, false, is_none, List, [], ◌∷◌, ℕ, IsTrue}
use Rattle.crawl_kinds.specs.Address.{IsUri}
use Rattle.crawl_kinds.specs.declared.settings.Settings.{Settings}
use Rattle.crawl_traits.specs.declared.link.Link.{Ghosts as LinkGhosts}
use Rattle.crawl_history.specs.Facts.{Archive}
use Rattle.core_facts.specs.CoreFacts.{Pages, is_secure}
use Rattle.frontier_core.specs.Core.{Core, facts}
use Rattle.frontier_core.specs.Emitting.{IsStep}
use Rattle.frontier_core.specs.Finishing.{IsFinished, Shows}
use Rattle.frontier_core.specs.Standing.{Stands}
use Rattle.page_spec.specs.Peer.{is_supported}
use Rattle.process_chains.specs.Done.{payload_of}
use Rattle.process_chains.specs.Ends.{world}
use Rattle.visit_spec.specs.Crawled.{GoesOn}
use Rattle.visit_spec.specs.Visits.{IsVisit, Visit, finish_of}

-- whatever pages and archive are, the emit is the history's, and so is the finish of what the pages show
pub record IsByHistory (old out new : Core) (v : Visit) : Type 0 where
  pub step : (pages : Pages) (a : Archive) → Stands pages a old → IsStep pages a old v.one
  pub stands : (pages : Pages) (a : Archive) → Stands pages a old → Stands pages a out
  pub finished :
      (pages : Pages) (a : Archive) → Shows (facts out pages) a (finish_of v) v.done.links (payload_of v.done.reply)
      → IsFinished pages a out new v.one (finish_of v)

-- under what any link and any clock make of the world: a legal history is legal with the visit, and what the core keeps
-- still says the same
abbrev pub VisitGoesOn : {C L : Type 0} → LinkGhosts L → (C → ℕ → Type 0) → Type 0
VisitGoesOn {C} {L} link gives =
    (clock : C) (settings : Settings) (start now : L) (old new : Core) (v : Visit)
    (is : IsVisit (world link (gives clock) settings start now) old new v) → IsByHistory old is.out new v → GoesOn old new (v ∷ [])

-- an address that is not of https, or has a proxy, can be asked for
abbrev pub AllowedIsSupported : Type 0
AllowedIsSupported =
    (settings : Settings) (uri : List ℕ) → IsUri uri → (is_secure uri && is_none settings.proxy) ≡ false → IsTrue (is_supported settings uri)
