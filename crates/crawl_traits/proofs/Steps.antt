-- What the steps of a file say.
use Rattle.std.proofs.Common.{◌≡◌, ℕ, ◌+◌, ◌-◌, min, List, ◌++◌, length, take, drop, replicate, refl, sym, ◌∙◌, ap, subst, arith, append_assoc, length-append, length-take, length-drop}
use Rattle.std.proofs.lemmas.List.{take_min, take_at, drop_at, take-take, length-replicate}
use Rattle.crawl_traits.specs.Images.{Image, written, TornWrite, TornCut, InFile, After, Only}
use Rattle.crawl_traits.specs.declared.file.FileId.{FileId}

-- a write of which nothing was done
pub torn_same : (at n : ℕ) (l : List ℕ) → TornWrite at n l l
torn_same at n l = record { before = take_min at l; after = refl; no_shorter = omega arith; no_longer = omega arith }

-- a cut of which nothing was done
pub cut_same : (to : ℕ) (l : List ℕ) → TornCut to l l
cut_same to l = record { before = refl; no_shorter = omega arith; no_longer = omega arith }

-- an image that stays as it was
pub stays : (file : FileId) (step : List ℕ → List ℕ → Type 0) (images : Image → Type 0) (i : Image) → images i → step (i file) (i file) → After file step images i
stays file step images i was same = record { old = i; was = was; by = record { here = same; elsewhere = λ other apart. refl } }

-- a step that does what another may do, on what the images have in the file
pub step_weaker : (file : FileId) (bytes : List ℕ) (step other : List ℕ → List ℕ → Type 0) (images : Image → Type 0) → Only file bytes images
    → ((c : List ℕ) → step bytes c → other bytes c) → (i : Image) → After file step images i → After file other images i
step_weaker file bytes step other images only to i a =
    let is = only a.old a.was in record {
      old = a.old;
      was = a.was;
      by = record {
        here = subst (λ (b : List ℕ). other b (i file)) (sym is) (to (i file) (subst (λ (b : List ℕ). step b (i file)) is a.by.here));
        elsewhere = a.by.elsewhere;
      };
    }

-- one step of the file after another, where the second leaves what the two together may leave
pub steps_joined : (file : FileId) (bytes : List ℕ) (first second both : List ℕ → List ℕ → Type 0) (images between : Image → Type 0) → Only file bytes between
    → ((i : Image) → between i → After file first images i) → ((a c : List ℕ) → second bytes c → both a c) → (i : Image) → After file second between i → After file both images i
steps_joined file bytes first second both images between only was to i a =
    let from = was a.old a.was in record {
      old = from.old;
      was = from.was;
      by = record {
        here = to (from.old file) (i file) (subst (λ (b : List ℕ). second b (i file)) (only a.old a.was) a.by.here);
        elsewhere = λ other apart. a.by.elsewhere other apart ∙ from.by.elsewhere other apart;
      };
    }

-- a write that was done is one that was done in part
pub written_torn : (at : ℕ) (bytes old : List ℕ) → TornWrite at (length bytes) old (written at bytes old)
written_torn at bytes old =
    let gap : List ℕ = replicate (at - length old) 0 in
    let rest : List ℕ = drop (at + length bytes) old in
    let front : length (take at old ++ gap ++ bytes) ≡ at + length bytes =
    omega (arith, length-append (take at old ++ gap) bytes, length-append (take at old) gap, length-take at old, length-replicate {A = ℕ} (at - length old) 0) in
    let all : length (take at old ++ gap ++ bytes ++ rest) ≡ at + length bytes + (length old - (at + length bytes)) =
    omega (arith, front, length-append (take at old ++ gap ++ bytes) rest, length-drop (at + length bytes) old) in
    record {
      before = ap (λ (l : List ℕ). take (min at (length old)) l) (append_assoc (take at old ++ gap) bytes rest ∙ append_assoc (take at old) gap (bytes ++ rest)) ∙ take_at (take at old) (gap ++ (bytes ++ rest)) (min at (length old)) (length-take at old);
      after = drop_at (take at old ++ gap ++ bytes) rest (at + length bytes) front;
      no_shorter = omega (arith, all);
      no_longer = omega (arith, all);
    }

-- and so is a cut
pub shortened_torn : (to : ℕ) (old : List ℕ) → TornCut to old (take to old)
shortened_torn to old = record { before = take-take to to old (omega arith); no_shorter = omega (arith, length-take to old); no_longer = omega (arith, length-take to old) }

-- a step that does what another may do
pub in_file_weaker : (file : FileId) (step other : List ℕ → List ℕ → Type 0) (old new : Image) → ((a b : List ℕ) → step a b → other a b) → InFile file step old new → InFile file other old new
in_file_weaker file step other old new to one = record { here = to (old file) (new file) one.here; elsewhere = one.elsewhere }

-- two steps of one file
pub in_file_joined : (file : FileId) (first second both : List ℕ → List ℕ → Type 0) (old mid new : Image) → ((a b c : List ℕ) → first a b → second b c → both a c) → InFile file first old mid → InFile file second mid new → InFile file both old new
in_file_joined file first second both old mid new to one two = record {
  here = to (old file) (mid file) (new file) one.here two.here;
  elsewhere = λ other apart. two.elsewhere other apart ∙ one.elsewhere other apart;
}

-- no step
pub in_file_same : (file : FileId) (step : List ℕ → List ℕ → Type 0) (old new : Image) → ((a : List ℕ) → step a a) → new ≡ old → InFile file step old new
in_file_same file step old new same is = subst (λ (i : Image). InFile file step old i) (sym is) (record { here = same (old file); elsewhere = λ other apart. refl })
