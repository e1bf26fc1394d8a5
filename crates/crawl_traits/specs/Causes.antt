-- When a call on something outside may fail.
--     Rose before now      a count of faults rose
--     HasCause before now result      a call that fails raised the count
--     HasStoreCause before now result      a call that answers the volume's fault raised its count
--     HasLinkCause before now result      a call that answers a link's fault raised the count of that fault
--     Tallied before n now      a tally went up by n
use Rattle.std.specs.Prelude.{◌≡◌, ℕ, ◌+◌, ◌-◌, ◌^◌, ◌≤◌, min, Result, Err, OnErr, IsErrOf}
use Rattle.crawl_traits.specs.declared.fault.StoreFault.{StoreFault}
use Rattle.crawl_traits.specs.declared.fault.StoreFault.TheVariants.{Volume}
use Rattle.crawl_traits.specs.declared.link.LinkFault.{LinkFault}

-- a count of 64 bits rose; it stands still at its type's end
abbrev pub Rose : ℕ → ℕ → Type 0
Rose before now = min (before + 1) (2 ^ 64 - 1) ≤ now

-- the count never falls, and a call fails only where it rose
pub record HasCause {T E : Type 0} (before now : ℕ) (result : Result T E) : Type 0 where
  pub later : before ≤ now
  pub failed : OnErr result (Rose before now)

-- the count never falls, and `Volume` is answered only where it rose
pub record HasStoreCause {T : Type 0} (before now : ℕ) (result : Result T StoreFault) : Type 0 where
  pub later : before ≤ now
  pub volume : IsErrOf result Volume → Rose before now

-- no count of a link ever falls, and a fault is answered only where its own count rose
pub record HasLinkCause {T : Type 0} (before now : LinkFault → ℕ) (result : Result T LinkFault) : Type 0 where
  pub later : (fault : LinkFault) → before fault ≤ now fault
  pub failed : (fault : LinkFault) → result ≡ Err fault → Rose (before fault) (now fault)

-- a tally of 64 bits went up by n, or stands at its type's end
abbrev pub Tallied : ℕ → ℕ → ℕ → Type 0
Tallied before n now = now ≡ min (before + n) (2 ^ 64 - 1)
