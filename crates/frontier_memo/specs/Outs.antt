-- That what is out waits.
--     OutStands h m      the item of the emit m waits, and its key was last added with it
--     OutsStand h      so do all that are out, and of no key two are out
use Rattle.std.specs.Prelude.{◌≡◌, true, false, List, [], ◌∷◌, Some}
use Rattle.std.specs.List.{AllByRecursion}
use Rattle.crawl_kinds.specs.Event.{Emission}
use Rattle.crawl_history.specs.History.{History}
use Rattle.crawl_history.specs.Places.{place_of, is_waiting, has_key}
use Rattle.crawl_history.specs.Tickets.{emits_out}
use Rattle.frontier_memo.specs.Fits.{last_added}

-- the key of the item waits, and was last added with it
pub record OutStands (h : History) (m : Emission) : Type 0 where
  pub waits : is_waiting (place_of h m.item.key) ≡ true
  pub added : last_added h m.item.key ≡ Some m.item

-- each is alone under its key
abbrev pub IsApart : List Emission → Type 0
IsApart [] = Unit {0}
IsApart (m ∷ ms) = AllByRecursion (λ other. has_key other.item.key m.item ≡ false) ms × IsApart ms

pub record Outs (h : History) (ms : List Emission) : Type 0 where
  pub each : AllByRecursion (OutStands h) ms
  pub apart : IsApart ms

-- all that are out stand so
abbrev pub OutsStand : History → Type 0
OutsStand h = Outs h (emits_out h)
