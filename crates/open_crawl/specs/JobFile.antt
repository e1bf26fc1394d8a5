-- The job file: a log that counts one block, the text of the job, or none.
--     HoldsText text file      the file counts this text, or no block
--     IsTextDamage at file      the file has no such reading: it is damaged, or has a second block, at this gate
--     IsJobDamage at file      and the file's one block is the text of no job
use Rattle.std.specs.Prelude.{◌≡◌, ◌≢◌, ◌⊎◌, ℕ, ◌+◌, List, [], ◌∷◌, length, Option, Some, None}
use Rattle.gate_log.specs.Blocks.{Counts, IsDamagedAt}
use Rattle.job_spec.specs.Job.{IsJobOf, IsRefusal}
use Rattle.job_spec.specs.declared.fault.JobFault.{JobFault}
use Rattle.job_spec.specs.declared.fault.JobFault.TheVariants.{NoMemory}
use Rattle.job_order.specs.declared.read.Job.{Job}

-- the file counts this text, or no block
abbrev pub HoldsText : Option (List ℕ) → List ℕ → Type 0
HoldsText None file = Counts [] file
HoldsText (Some text) file = Counts (text ∷ []) file

-- a second block stands at this gate, behind the first: its gate, eight digits, LF and its body
pub record HasSecondAt (at : ℕ) (file : List ℕ) : Type 0 where
  pub first : List ℕ
  pub second : List ℕ
  pub others : List (List ℕ)
  pub counts : Counts (first ∷ second ∷ others) file
  pub place : at ≡ 10 + length first

-- the file is damaged at this gate, or has a second block there
abbrev pub IsTextDamage : ℕ → List ℕ → Type 0
IsTextDamage at file = IsDamagedAt at file ⊎ HasSecondAt at file

-- the text of this job
pub record IsTextOfJob (text : List ℕ) (job : Job) : Type 0 where
  pub is : IsJobOf text job.settings job.seeds job.scope

-- the file's one block is the text of no job
pub record HoldsNoJob (file : List ℕ) : Type 0 where
  pub text : List ℕ
  pub counts : Counts (text ∷ []) file
  pub fault : JobFault
  pub refused : IsRefusal text fault
  pub named : fault ≢ NoMemory

-- the file is no job's: its text can't be read, or is the text of no job, at the file's first gate
abbrev pub IsJobDamage : ℕ → List ℕ → Type 0
IsJobDamage at file = IsTextDamage at file ⊎ ((at ≡ 0) × HoldsNoJob file)
