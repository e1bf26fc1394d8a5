-- What a volume that records its calls keeps.
use Rattle.std.specs.Prelude.{◌≡◌, ◌≢◌, ℕ, ◌≤◌, Bool, true, if◌then◌else◌, List, [], ◌∷◌, length, take, drop, refl, nat_eq}
use Rattle.std.proofs.Common.{inl, inr, sym, ap, subst, arith}
use Rattle.std.proofs.lemmas.Bool.{cases_Bool}
use Rattle.std.proofs.lemmas.Bool.Decides.{nat_tests}
use Rattle.crawl_traits.specs.Images.{Image, written, TornWrite, TornCut, InFile}
use Rattle.crawl_traits.specs.declared.file.FileId.{FileId}
use Rattle.crawl_traits.specs.declared.file.FileId.TheVariants.{Job, Manifest, Journal, Checkpoint, Warc}
use Rattle.crawl_traits.proofs.Steps.{written_torn, shortened_torn}
use Rattle.crawl_memory.specs.declared.call.Call.{Call}
use Rattle.crawl_memory.specs.declared.call.Call.TheVariants.{Write, Cut, Sync}
use Rattle.crawl_memory.specs.Files.{same_file}
use Rattle.crawl_memory.specs.Calls.{contents_after, MayLeave, LeftSince}

nat_eq_self : (n : ℕ) → nat_eq n n ≡ true
nat_eq_self n = grind (arith, nat_tests)

nat_eq_is : (a b : ℕ) → nat_eq a b ≡ true → a ≡ b
nat_eq_is a b h = grind (arith, nat_tests)

pub same_file_self : (file : FileId) → same_file file file ≡ true
same_file_self Job = refl
same_file_self Manifest = refl
same_file_self (Journal n) = nat_eq_self n
same_file_self (Checkpoint n) = nat_eq_self n
same_file_self (Warc n) = nat_eq_self n

pub one_file : (a b : FileId) → same_file a b ≡ true → a ≡ b
one_file Job Job h = refl
one_file Manifest Manifest h = refl
one_file (Journal a) (Journal b) h = ap (λ (n : ℕ). Journal n) (nat_eq_is a b h)
one_file (Checkpoint a) (Checkpoint b) h = ap (λ (n : ℕ). Checkpoint n) (nat_eq_is a b h)
one_file (Warc a) (Warc b) h = ap (λ (n : ℕ). Warc n) (nat_eq_is a b h)
one_file Job Manifest h = absurd (cc (h))
one_file Job (Journal b) h = absurd (cc (h))
one_file Job (Checkpoint b) h = absurd (cc (h))
one_file Job (Warc b) h = absurd (cc (h))
one_file Manifest Job h = absurd (cc (h))
one_file Manifest (Journal b) h = absurd (cc (h))
one_file Manifest (Checkpoint b) h = absurd (cc (h))
one_file Manifest (Warc b) h = absurd (cc (h))
one_file (Journal a) Job h = absurd (cc (h))
one_file (Journal a) Manifest h = absurd (cc (h))
one_file (Journal a) (Checkpoint b) h = absurd (cc (h))
one_file (Journal a) (Warc b) h = absurd (cc (h))
one_file (Checkpoint a) Job h = absurd (cc (h))
one_file (Checkpoint a) Manifest h = absurd (cc (h))
one_file (Checkpoint a) (Journal b) h = absurd (cc (h))
one_file (Checkpoint a) (Warc b) h = absurd (cc (h))
one_file (Warc a) Job h = absurd (cc (h))
one_file (Warc a) Manifest h = absurd (cc (h))
one_file (Warc a) (Journal b) h = absurd (cc (h))
one_file (Warc a) (Checkpoint b) h = absurd (cc (h))

-- a choice by one file, at that file and at another
pub at_file : (file : FileId) (there old : List ℕ) → (if same_file file file then there else old) ≡ there
at_file file there old = ap (λ (b : Bool). if b then there else old) (same_file_self file)

pub at_other : (other file : FileId) (there old : List ℕ) → other ≢ file → (if same_file other file then there else old) ≡ old
at_other other file there old apart = elim (cases_Bool (same_file other file)) [
  | inl same ↦ absurd (apart (one_file other file same))
  | inr differ ↦ ap (λ (b : Bool). if b then there else old) differ
]

-- a recorded call is a step of its file
pub write_step : (in_file : FileId) (at : ℕ) (bytes : List ℕ) (before : List Call) → InFile in_file (TornWrite at (length bytes)) (contents_after before) (contents_after (Write in_file at bytes ∷ before))
write_step in_file at bytes before = record {
  here = subst (TornWrite at (length bytes) (contents_after before in_file)) (sym (at_file in_file (written at bytes (contents_after before in_file)) (contents_after before in_file))) (written_torn at bytes (contents_after before in_file));
  elsewhere = λ other apart. at_other other in_file (written at bytes (contents_after before other)) (contents_after before other) apart;
}

pub cut_step : (in_file : FileId) (to : ℕ) (before : List Call) → InFile in_file (TornCut to) (contents_after before) (contents_after (Cut in_file to ∷ before))
cut_step in_file to before = record {
  here = subst (TornCut to (contents_after before in_file)) (sym (at_file in_file (take to (contents_after before in_file)) (contents_after before in_file))) (shortened_torn to (contents_after before in_file));
  elsewhere = λ other apart. at_other other in_file (take to (contents_after before other)) (contents_after before other) apart;
}

-- what a read gives is one of the images
pub reads_one : (calls : List Call) → MayLeave calls (contents_after calls)
reads_one [] = λ file. refl
reads_one (Write in_file at bytes ∷ before) = record { old = contents_after before; was = reads_one before; by = write_step in_file at bytes before }
reads_one (Cut in_file to ∷ before) = record { old = contents_after before; was = reads_one before; by = cut_step in_file to before }
reads_one (Sync in_file ∷ before) = (reads_one before, refl)

pub now_counts : (calls : List Call) (t : ℕ) (image : Image) → t ≤ length calls → MayLeave calls image → LeftSince calls t image
now_counts calls t image le now = (0, omega arith, now)

pub none_newer : (calls : List Call) (image : Image) → LeftSince calls (length calls) image → MayLeave calls image
none_newer calls image left =
    let none : left.0 ≡ 0 = omega (arith, left.1) in
    subst (λ (k : ℕ). MayLeave (drop k calls) image) none left.2
