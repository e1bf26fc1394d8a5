-- Which end an item may have.
--     end_without_fetch outcome code number      an end at try number without a fetch
--     Suits f a number item end verdict      the end of the item at try number suits the verdict on it
use Rattle.std.specs.Prelude.{◌≡◌, ℕ, Bool, false, not, ◌&&◌, ◌||◌, nat_le, nat_lt, None, is_some, IsTrue, length, ℤ}
use Rattle.std.specs.Ordering.{int_eq}
use Rattle.crawl_kinds.specs.declared.event.Outcome.{Outcome}
use Rattle.crawl_kinds.specs.declared.event.Outcome.TheVariants.{Success, Failure, Disregard, Retry}
use Rattle.crawl_kinds.specs.declared.event.Verdict.{Verdict}
use Rattle.crawl_kinds.specs.declared.event.Verdict.TheVariants.{Allowed, Precluded, Needed, Unsupported, Unreachable}
use Rattle.crawl_kinds.specs.declared.event.End.{End}
use Rattle.crawl_kinds.specs.declared.item.Item.{Item}
use Rattle.crawl_history.specs.Codes.{no_cause, refused, lost, timed_out, unsupported, too_many_tries, robots_needed, robots_unreachable, no_head, robots_precluded}
use Rattle.crawl_history.specs.Facts.{Facts, Archive}
use Rattle.crawl_history.specs.Robots.{cited_block}

-- an end without a fetch and a body
abbrev pub end_without_fetch : Outcome → ℤ → ℕ → End
end_without_fetch outcome code number =
    record { outcome = outcome; code = code; fetch = None; body = None; notes = record { cut = None; tries = number; cause = no_cause } }

-- whether the code is a fault of the link
abbrev pub is_link_fault : ℤ → Bool
is_link_fault code = int_eq code refused || int_eq code lost || int_eq code timed_out

-- whether nothing caused the end but what its code says
abbrev pub has_no_cause : End → Bool
has_no_cause end = int_eq end.notes.cause no_cause

-- whether nothing was recorded and nothing cut
abbrev pub is_bare : End → Bool
is_bare end = not (is_some end.body) && not (is_some end.notes.cut)

-- a link fault with tries left
abbrev pub is_tried_again : Facts → ℕ → End → Bool
is_tried_again f number end = nat_lt number f.settings.max_tries && is_link_fault end.code && has_no_cause end

-- a link fault at the last try
abbrev pub is_tried_out : Facts → ℕ → End → Bool
is_tried_out f number end =
    int_eq end.code too_many_tries && is_link_fault end.notes.cause && nat_le f.settings.max_tries number

-- bytes without a whole response head
abbrev pub is_headless : End → Bool
is_headless end = int_eq end.code no_head && has_no_cause end

-- the end says what its block holds, which is not empty
abbrev pub is_recorded : Facts → Archive → Item → End → Bool
is_recorded f a item end =
    is_some end.body && nat_lt 0 (length (cited_block a end.body)) && f.fits item.uri (cited_block a end.body) end
    && has_no_cause end

-- whether a fetch at try number may end so, by the outcome
abbrev pub is_fetched_end : Facts → Archive → Item → ℕ → End → Outcome → Bool
is_fetched_end f a item number end Success = is_recorded f a item end
is_fetched_end f a item number end Failure = (is_tried_out f number end || is_headless end) && is_bare end
is_fetched_end f a item number end Disregard = false
is_fetched_end f a item number end Retry = is_tried_again f number end && is_bare end

-- what is allowed is fetched, and the exchange decides; every other verdict has one end
abbrev pub Suits : Facts → Archive → ℕ → Item → End → Verdict → Type 0
Suits f a number item end Allowed =
    IsTrue (is_fetched_end f a item number end end.outcome) × IsTrue (is_some end.fetch) × (end.notes.tries ≡ number)
Suits f a number item end Unsupported = end ≡ end_without_fetch Failure unsupported number
Suits f a number item end Needed = end ≡ end_without_fetch Retry robots_needed number
Suits f a number item end Unreachable = end ≡ end_without_fetch Failure robots_unreachable number
Suits f a number item end Precluded = end ≡ end_without_fetch Disregard robots_precluded number
