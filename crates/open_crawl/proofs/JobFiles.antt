-- What reading and writing the job file leaves, over any volume.
use Rattle.std.proofs.Common.{inl, inr, ℕ, ◌≤◌, max, List, [], ◌∷◌, length, refl, ◌∙◌, arith}
use Rattle.crawl_traits.specs.Images.{Image, After}
use Rattle.crawl_traits.specs.Runs.{LeavesOnly, IsSettled}
use Rattle.crawl_traits.specs.declared.file.FileId.{FileId}
use Rattle.crawl_traits.specs.declared.file.FileId.TheVariants.{Job}
use Rattle.crawl_traits.specs.declared.volume.Volume.{Ghosts}
use Rattle.crawl_traits.proofs.Moments.{weaker, joined, now_one}
use Rattle.gate_log.specs.Blocks.{Counts, EndsAt}
use Rattle.gate_log.specs.Rest.{Emptied, CountsOneMore}
use Rattle.job_spec.specs.Job.{IsRefusal}
use Rattle.job_spec.specs.declared.fault.JobFault.{JobFault}
use Rattle.job_spec.specs.declared.fault.JobFault.TheVariants as fault
use Rattle.open_crawl.specs.JobFile.{IsTextDamage, IsJobDamage}
use Rattle.open_crawl.specs.Faults.{IsDamageOf, refusal}
use Rattle.crawl_traits.specs.declared.fault.StoreFault.{StoreFault}
use Rattle.crawl_traits.specs.declared.fault.StoreFault.TheVariants as store

-- a log at rest counts its blocks
pub rest_counts : (bodies : List (List ℕ)) (file : List ℕ) → EndsAt bodies file → Counts bodies file
rest_counts bodies file ends = inl (record { gate = ends.gate; behind = []; all = ends.all; closed = ends.closed; spelled = ends.spelled })

-- a text that is refused makes its file no job's
pub refused_is_damage : (text file : List ℕ) (f : JobFault) → Counts (text ∷ []) file → IsRefusal text f → IsDamageOf Job (λ at. IsJobDamage at file) (refusal f)
refused_is_damage text file fault.NoMemory counts refused = tt
refused_is_damage text file fault.TooLong counts refused = (refl, inr (refl, record { text = text; counts = counts; fault = fault.TooLong; refused = refused; named = λ same. absurd (cc (same)) }))
refused_is_damage text file fault.NotToml counts refused = (refl, inr (refl, record { text = text; counts = counts; fault = fault.NotToml; refused = refused; named = λ same. absurd (cc (same)) }))
refused_is_damage text file (fault.UnknownName name) counts refused = (refl, inr (refl, record { text = text; counts = counts; fault = fault.UnknownName name; refused = refused; named = λ same. absurd (cc (same)) }))
refused_is_damage text file (fault.Missing name) counts refused = (refl, inr (refl, record { text = text; counts = counts; fault = fault.Missing name; refused = refused; named = λ same. absurd (cc (same)) }))
refused_is_damage text file (fault.OutOfRange name) counts refused = (refl, inr (refl, record { text = text; counts = counts; fault = fault.OutOfRange name; refused = refused; named = λ same. absurd (cc (same)) }))
refused_is_damage text file (fault.BadSeed line) counts refused = (refl, inr (refl, record { text = text; counts = counts; fault = fault.BadSeed line; refused = refused; named = λ same. absurd (cc (same)) }))
refused_is_damage text file (fault.BadPattern index) counts refused = (refl, inr (refl, record { text = text; counts = counts; fault = fault.BadPattern index; refused = refused; named = λ same. absurd (cc (same)) }))

-- what is damage of the text is damage of the job
pub text_is_job_damage : (file : List ℕ) (f : StoreFault) → IsDamageOf Job (λ at. IsTextDamage at file) f → IsDamageOf Job (λ at. IsJobDamage at file) f
text_is_job_damage file store.Volume damage = tt
text_is_job_damage file (store.Damaged of_file at) damage = (damage.0, inl damage.1)
text_is_job_damage file store.NoMemory damage = tt

module _ {V : Type 0} (of : Ghosts V) (file : FileId) (old mid : V) (body : List ℕ) where
  -- any image whose file counts no block, or this one
  abbrev pub Fine : Image → Type 0
  Fine = After file (CountsOneMore [] body) (of.may_leave old)

  -- a file of at most one byte that is emptied counts no block
  pub fresh_leaves : IsSettled of old (λ i. length (i file) ≤ 1) → LeavesOnly of old mid (After file Emptied (of.may_leave old)) → LeavesOnly of old mid Fine
  fresh_leaves settled run =
      weaker of old mid _ Fine
      (λ i a.
      let short : length (a.old file) ≤ 1 = settled.each a.old a.was in
      let emptied : length (i file) ≤ max (length (a.old file)) 1 = a.by.here in
      record { old = a.old; was = a.was; by = record { here = inl (inr (refl, omega (arith, short, emptied))); elsewhere = a.by.elsewhere } })
      run

  pub append_leaves : (counts_now : (v : V) (t : ℕ) (i : Image) → t ≤ of.moment v → of.may_leave v i → of.left_since v t i) (new : V) → LeavesOnly of old mid Fine
      → LeavesOnly of mid new (After file (CountsOneMore [] body) (of.may_leave mid)) → LeavesOnly of old new Fine
  append_leaves counts_now new first second =
      joined of old mid new Fine first
      (weaker of mid new _ Fine
      (λ i a.
      let from = now_one of counts_now old mid Fine first a.old a.was in
      record { old = from.old; was = from.was; by = record { here = a.by.here; elsewhere = λ other apart. a.by.elsewhere other apart ∙ from.by.elsewhere other apart } })
      second)
