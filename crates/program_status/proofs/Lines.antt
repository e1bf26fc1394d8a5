-- The parts of lines.
use Rattle.std.proofs.Common.{◌≡◌, ℕ, zero, suc, ◌-◌, min, List, [], ◌∷◌, ◌++◌, take, drop, refl, sym, ◌∙◌, ap, arith, append_assoc}
use Rattle.std.specs.Prelude.{codes, replicate}
use Rattle.std.specs.Fmt.{decimal}
use Rattle.crawl_traits.specs.declared.file.FileId.TheVariants.{Journal, Checkpoint, Warc, Job, Manifest}
use Rattle.job_spec.specs.declared.fault.JobFault.TheVariants as fault
use Rattle.program_status.specs.Status.{fault_text, file_name, five_digits}

-- so many zeros as are wanted in front of five digits
abbrev pub five_zeros : List ℕ
five_zeros = 48 ∷ 48 ∷ 48 ∷ 48 ∷ 48 ∷ []

pub zeros : (n : ℕ) → take (5 - min n 5) (drop (min n 5) five_zeros) ≡ replicate (5 - n) 48
zeros zero = refl
zeros (suc zero) = refl
zeros (suc (suc zero)) = refl
zeros (suc (suc (suc zero))) = refl
zeros (suc (suc (suc (suc zero)))) = refl
zeros (suc (suc (suc (suc (suc n))))) =
    ap (λ (k : ℕ). take (5 - k) (drop k five_zeros)) (five n) ∙ ap (λ (k : ℕ). replicate k 48) (none n)
  where
    five : (n : ℕ) → min (suc (suc (suc (suc (suc n))))) 5 ≡ 5
    five n = omega arith

    none : (n : ℕ) → 0 ≡ 5 - suc (suc (suc (suc (suc n))))
    none n = omega arith

-- the pieces of a name in a line, as the line has them
pub grouped : (a z d b t p n : List ℕ) → a ++ (z ++ (d ++ (b ++ (t ++ (p ++ n))))) ≡ ((((a ++ (z ++ d)) ++ b) ++ t) ++ p) ++ n
grouped a z d b t p n =
    sym (append_assoc (((a ++ (z ++ d)) ++ b) ++ t) p n ∙ append_assoc ((a ++ (z ++ d)) ++ b) t (p ++ n) ∙ append_assoc (a ++ (z ++ d)) b (t ++ (p ++ n))
    ∙ append_assoc a (z ++ d) (b ++ (t ++ (p ++ n))) ∙ ap (λ (s : List ℕ). a ++ s) (append_assoc z d (b ++ (t ++ (p ++ n)))))

pub job_name : file_name Job ≡ codes "job"
unfolding file_name
job_name = refl

pub manifest_name : file_name Manifest ≡ codes "manifest"
unfolding file_name
manifest_name = refl

pub journal_name : (n : ℕ) → file_name (Journal n) ≡ codes "journal." ++ five_digits n
unfolding file_name
journal_name n = refl

pub checkpoint_name : (n : ℕ) → file_name (Checkpoint n) ≡ codes "checkpoint." ++ five_digits n
unfolding file_name
checkpoint_name n = refl

pub warc_name : (n : ℕ) → file_name (Warc n) ≡ codes "WEB-" ++ five_digits n ++ codes ".warc"
unfolding file_name
warc_name n = refl

pub too_long : fault_text fault.TooLong ≡ codes "TooLong"
unfolding fault_text
too_long = refl

pub not_toml : fault_text fault.NotToml ≡ codes "NotToml"
unfolding fault_text
not_toml = refl

pub no_memory : fault_text fault.NoMemory ≡ codes "NoMemory"
unfolding fault_text
no_memory = refl

pub bad_seed : (n : ℕ) → fault_text (fault.BadSeed n) ≡ codes "BadSeed " ++ decimal n
unfolding fault_text
bad_seed n = refl

pub bad_pattern : (n : ℕ) → fault_text (fault.BadPattern n) ≡ codes "BadPattern " ++ decimal n
unfolding fault_text
bad_pattern n = refl
