-- When a call of an object in memory fails.
--     next_call f, IsListed f      the number of the next call, and whether it is to fail
--     FailsExactly old new result      a call fails exactly where it is listed or found no memory
use Rattle.std.specs.Prelude.{◌≡◌, ◌⊎◌, ℕ, ◌+◌, ◌-◌, ◌^◌, min, Contains, Result, OnOk, OnErr, IsErr}
use Rattle.crawl_traits.specs.Causes.{Rose, HasCause}
use Rattle.crawl_memory.specs.declared.fails.Fails.{Fails}

-- calls are numbered from 1, and the number stands still at its type's end
abbrev pub next_call : Fails → ℕ
next_call f = min (f.calls + 1) (2 ^ 64 - 1)

-- the next call is one that is to fail
abbrev pub IsListed : Fails → Type 0
IsListed f = Contains f.listed.items (next_call f)

-- a call fails exactly where it is listed, or the count of calls that found no memory rose
pub record FailsExactly {T E : Type 0} (old new : Fails) (result : Result T E) : Type 0 where
  pub only : OnErr result (IsListed old ⊎ Rose old.starved new.starved)
  pub listed : IsListed old → IsErr result
  pub fed : OnOk result (new.starved ≡ old.starved)
  pub cause : HasCause old.faults new.faults result
