-- Which ending an item is given.
--     unfetched verdict tries      the one without a fetch, where the verdict allows none
--     faulty fault span tries max_tries      that of a fetch that the link's fault ended
--     headless span tries, answered status span tries      those of a fetch without and with a whole response
use Rattle.std.specs.Prelude.{ℕ, ℤ, pos, nat_lt, Option, Some, None, if◌then◌else◌}
use Rattle.crawl_kinds.specs.declared.event.Body.{Body}
use Rattle.crawl_kinds.specs.declared.event.End.{End}
use Rattle.crawl_kinds.specs.declared.event.Fetch.{Fetch}
use Rattle.crawl_kinds.specs.declared.event.Outcome.{Outcome}
use Rattle.crawl_kinds.specs.declared.event.Outcome.TheVariants.{Success, Failure, Disregard, Retry}
use Rattle.crawl_kinds.specs.declared.event.Verdict.{Verdict}
use Rattle.crawl_kinds.specs.declared.event.Verdict.TheVariants.{Allowed, Precluded, Needed, Unsupported, Unreachable}
use Rattle.crawl_traits.specs.declared.link.LinkFault.{LinkFault}
use Rattle.crawl_traits.specs.declared.link.LinkFault.TheVariants.{Refused, Lost, TimedOut}
use Rattle.crawl_history.specs.Codes as codes_of
use Rattle.process_chains.specs.declared.ending.Ending.{Ending}

-- an ending without a cut
abbrev pub ending : Outcome → ℤ → Option Fetch → ℕ → ℤ → Ending
ending outcome code fetch tries cause =
    record { outcome = outcome; code = code; fetch = fetch; notes = record { cut = None; tries = tries; cause = cause } }

-- the end with this ending and this body
abbrev pub end_with : Ending → Option Body → End
end_with e body = record { outcome = e.outcome; code = e.code; fetch = e.fetch; body = body; notes = e.notes }

-- the code of a link's fault
abbrev pub code_of : LinkFault → ℤ
code_of Refused = codes_of.refused
code_of Lost = codes_of.lost
code_of TimedOut = codes_of.timed_out

-- every verdict but one has one ending
abbrev pub unfetched : Verdict → ℕ → Option Ending
unfetched Allowed tries = None
unfetched Unsupported tries = Some (ending Failure codes_of.unsupported None tries codes_of.no_cause)
unfetched Needed tries = Some (ending Retry codes_of.robots_needed None tries codes_of.no_cause)
unfetched Unreachable tries = Some (ending Failure codes_of.robots_unreachable None tries codes_of.no_cause)
unfetched Precluded tries = Some (ending Disregard codes_of.robots_precluded None tries codes_of.no_cause)

-- tried again, unless that was the last try
abbrev pub faulty : LinkFault → Fetch → ℕ → ℕ → Ending
faulty fault span tries max_tries =
    if nat_lt tries max_tries
    then ending Retry (code_of fault) (Some span) tries codes_of.no_cause
    else ending Failure codes_of.too_many_tries (Some span) tries (code_of fault)

-- no whole response came
abbrev pub headless : Fetch → ℕ → Ending
headless span tries = ending Failure codes_of.no_head (Some span) tries codes_of.no_cause

-- a whole response came
abbrev pub answered : ℕ → Fetch → ℕ → Ending
answered status span tries = ending Success (pos status) (Some span) tries codes_of.no_cause
