-- When a call of a link in memory fails.
--     next_number f, listed_fault f      the number of the next call, and the fault that is listed for it
--     count_of f fault      how often a fault was answered
--     unless holds fault      the fault of a call that needs what does not hold
--     LinkFailsExactly old new own result      a call fails exactly where it is listed, found no memory, or for a
--         reason of its own; the first that holds gives the fault, whose count alone rises
use Rattle.std.specs.Prelude.{◌≡◌, ◌⊎◌, ℕ, ◌+◌, ◌-◌, ◌^◌, min, Bool, true, false, nat_eq, if◌then◌else◌, List, Option, Some, None, option_map, Result, Ok, Err}
use Rattle.std.specs.List.{find}
use Rattle.std.specs.Option.{option_or}
use Rattle.crawl_traits.specs.Causes.{HasLinkCause, Tallied}
use Rattle.crawl_traits.specs.declared.link.LinkFault.{LinkFault}
use Rattle.crawl_traits.specs.declared.link.LinkFault.TheVariants.{Refused, Lost, TimedOut}
use Rattle.crawl_memory.specs.declared.link_fails.LinkFails.{LinkFails}

-- calls are numbered from 1, and the number stands still at its type's end
abbrev pub next_number : LinkFails → ℕ
next_number f = min (f.calls + 1) (2 ^ 64 - 1)

-- the fault of the first entry with this number
abbrev pub fault_at : ℕ → List (ℕ × LinkFault) → Option LinkFault
fault_at number entries = option_map (λ entry. entry.1) (find (λ entry. nat_eq entry.0 number) entries)

-- the fault that is listed for the next call
abbrev pub listed_fault : LinkFails → Option LinkFault
listed_fault f = fault_at (next_number f) f.listed.items

-- how often a fault was answered
abbrev pub count_of : LinkFails → LinkFault → ℕ
count_of f Refused = f.refused
count_of f Lost = f.lost
count_of f TimedOut = f.timed_out

abbrev pub same_fault : LinkFault → LinkFault → Bool
same_fault Refused Refused = true
same_fault Lost Lost = true
same_fault TimedOut TimedOut = true
same_fault _ _ = false

-- the fault of a call that needs what does not hold
abbrev pub unless : Bool → LinkFault → Option LinkFault
unless true fault = None
unless false fault = Some fault

-- the fault that a call answered
abbrev pub fault_of : {T : Type 0} → Result T LinkFault → Option LinkFault
fault_of (Ok x) = None
fault_of (Err fault) = Some fault

-- the count of the fault that was answered goes up by one, and no other moves
abbrev pub counted : Option LinkFault → LinkFault → ℕ → ℕ
counted None fault n = n
counted (Some answered) fault n = if same_fault answered fault then min (n + 1) (2 ^ 64 - 1) else n

-- it found memory: it answers the fault that is listed for it, or else its own
abbrev pub Fed : {T : Type 0} → LinkFails → LinkFails → Option LinkFault → Result T LinkFault → Type 0
Fed old new own result = (fault_of result ≡ option_or (listed_fault old) own) × (new.starved ≡ old.starved)

-- it found none, and no fault is listed for it
abbrev pub Starved : {T : Type 0} → LinkFails → LinkFails → Result T LinkFault → Type 0
Starved old new result = (listed_fault old ≡ None) × (result ≡ Err Lost) × Tallied old.starved 1 new.starved

-- a call fails exactly where it is listed, found no memory, or for a reason of its own, in this order
pub record LinkFailsExactly {T : Type 0} (old new : LinkFails) (own : Option LinkFault) (result : Result T LinkFault) : Type 0 where
  pub fault : Fed old new own result ⊎ Starved old new result
  pub counts : (fault : LinkFault) → count_of new fault ≡ counted (fault_of result) fault (count_of old fault)
  pub number : new.calls ≡ next_number old
  pub entries : new.listed.items ≡ old.listed.items
  pub cause : HasLinkCause (count_of old) (count_of new) result
