-- What refuses a table refuses its text.
use Rattle.std.proofs.Common.{ℕ, List}
use Rattle.toml.specs.Data.{Members}
use Rattle.crawl_kinds.specs.declared.settings.Settings.{Settings}
use Rattle.scope_spec.specs.Decision.{ScopeRules}
use Rattle.job_spec.specs.declared.fault.JobFault.{JobFault}
use Rattle.job_spec.specs.declared.fault.JobFault.TheVariants as fault
use Rattle.job_spec.specs.Job.{IsJobOf, IsJobOfTable, IsRefusal, IsRefusalOf, IsTextOf}

pub refused : (bytes : List ℕ) (m : Members) (given : JobFault) → IsTextOf bytes m → IsRefusalOf m given → IsRefusal bytes given
unfolding IsRefusal IsRefusalOf
refused bytes m fault.NoMemory of is = tt
refused bytes m fault.TooLong of is = absurd is
refused bytes m fault.NotToml of is = absurd is
refused bytes m (fault.UnknownName name) of is = (m, of, is)
refused bytes m (fault.Missing name) of is = (m, of, is)
refused bytes m (fault.OutOfRange name) of is = (m, of, is)
refused bytes m (fault.BadSeed line) of is = (m, of, is)
refused bytes m (fault.BadPattern index) of is = (m, of, is)

pub job_read : (bytes : List ℕ) (m : Members) (settings : Settings) (seeds : List (List ℕ)) (scope : ScopeRules) → IsTextOf bytes m → IsJobOfTable m settings seeds scope
    → IsJobOf bytes settings seeds scope
job_read bytes m settings seeds scope of is = record { table = m; of = of; is = is }
