-- What a fault of an opening says is true.
use Rattle.std.specs.Prelude.{◌≡◌, ℕ, List, None}
use Rattle.crawl_traits.specs.declared.file.FileId.{FileId}
use Rattle.crawl_traits.specs.declared.file.FileId.TheVariants.{Job}
use Rattle.crawl_traits.specs.declared.fault.StoreFault.{StoreFault}
use Rattle.crawl_traits.specs.declared.fault.StoreFault.TheVariants.{Volume, Damaged, NoMemory}
use Rattle.job_spec.specs.declared.fault.JobFault.{JobFault}
use Rattle.job_spec.specs.declared.fault.JobFault.TheVariants as starved
use Rattle.open_crawl.specs.JobFile.{HoldsText, IsJobDamage}
use Rattle.open_crawl.specs.declared.fault.LoadFault.{LoadFault}
use Rattle.open_crawl.specs.declared.fault.LoadFault.TheVariants.{NoJob, Store}

-- a fault names this file and a gate of which this is true
abbrev pub IsDamageOf : FileId → (ℕ → Type 0) → StoreFault → Type 0
IsDamageOf file is Volume = Unit {0}
IsDamageOf file is (Damaged of_file at) = (of_file ≡ file) × is at
IsDamageOf file is NoMemory = Unit {0}

-- a text that is refused is damage at the file's first gate, but for want of memory
abbrev pub refusal : JobFault → StoreFault
refusal starved.NoMemory = NoMemory
refusal fault = Damaged Job 0

-- there is no job where the file counts no block
abbrev pub IsLoadFault : List ℕ → LoadFault → Type 0
IsLoadFault file NoJob = HoldsText None file
IsLoadFault file (Store fault) = IsDamageOf Job (λ at. IsJobDamage at file) fault
