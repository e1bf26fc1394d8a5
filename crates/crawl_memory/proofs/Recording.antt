-- One recorded call more.
use Rattle.std.proofs.Common.{◌≡◌, ◌⊎◌, inl, inr, ℕ, zero, suc, List, [], ◌∷◌, ◌++◌, length, Result, Ok, Err, OnOk, OnErr, sym, ◌∙◌, ap, subst, arith}
use Rattle.std.proofs.lemmas.List.{reverse-append}
use Rattle.crawl_traits.specs.Images.{Image, Elapses, Written, TornWrite, Shortened, TornCut, InFile, After, Only}
use Rattle.crawl_traits.specs.declared.file.FileId.{FileId}
use Rattle.crawl_traits.proofs.Steps.{torn_same, cut_same, in_file_same, stays}
use Rattle.crawl_memory.specs.declared.call.Call.{Call}
use Rattle.crawl_memory.specs.declared.call.Call.TheVariants.{Write, Cut, Sync}
use Rattle.crawl_memory.specs.Calls.{contents_after, MayLeave, LeftSince, newest_first}
use Rattle.crawl_memory.specs.Laws.{at_file, at_other, write_step, cut_step}

pub newest_push : (old new : List Call) (call : Call) → new ≡ old ++ call ∷ [] → newest_first new ≡ call ∷ newest_first old
newest_push old new call is = ap newest_first is ∙ reverse-append old (call ∷ [])

older : (calls : List Call) (call : Call) (t : ℕ) (image : Image) → LeftSince (call ∷ calls) t image → LeftSince calls t image ⊎ MayLeave (call ∷ calls) image
older calls call t image (zero, within, left) = inr left
older calls call t image (suc newer, within, left) = inl (newer, omega (arith, within), left)

abbrev Time : List Call → List Call → Type 0
Time old new = Elapses (length old) (length new) (λ t image. LeftSince old t image) (λ t image. LeftSince new t image) (λ image. MayLeave new image)

time_more : (calls : List Call) (call : Call) → Time calls (call ∷ calls)
time_more calls call = record {
  later = omega arith;
  nothing_else = λ t image le left. older calls call t image left;
  keeps = λ t image le left. (suc left.0, omega (arith, left.1), left.2);
}

time_still : (calls : List Call) → Time calls calls
time_still calls = record { later = omega arith; nothing_else = λ t image le left. inl left; keeps = λ t image le left. left }

-- time goes on by a call that was recorded where it was done
pub recorded_time : {T E : Type 0} (r : Result T E) (old new : List Call) (call : Call) → OnOk r (new ≡ old ++ call ∷ []) → OnErr r (new ≡ old)
    → Elapses (length (newest_first old)) (length (newest_first new)) (λ t image. LeftSince (newest_first old) t image) (λ t image. LeftSince (newest_first new) t image) (λ image. MayLeave (newest_first new) image)
recorded_time (Ok x) old new call is same = subst (Time (newest_first old)) (sym (newest_push old new call is)) (time_more (newest_first old) call)
recorded_time (Err e) old new call is same = subst (Time (newest_first old)) (sym (ap newest_first same)) (time_still (newest_first old))

module _ (file : FileId) (at : ℕ) (from : List ℕ) where
  write_done : (old new : List Call) → new ≡ old ++ Write file at from ∷ [] → InFile file (Written at from) (contents_after (newest_first old)) (contents_after (newest_first new))
  write_done old new is =
      subst (λ (l : List Call). InFile file (Written at from) (contents_after (newest_first old)) (contents_after l)) (sym (newest_push old new (Write file at from) is)) (record {
        here = at_file file _ _;
        elsewhere = λ other apart. at_other other file _ _ apart;
      })

  pub recorded_write : {T E : Type 0} (r : Result T E) (old new : List Call) → OnOk r (new ≡ old ++ Write file at from ∷ []) → OnOk r (InFile file (Written at from) (contents_after (newest_first old)) (contents_after (newest_first new)))
  recorded_write (Ok x) old new is = write_done old new is
  recorded_write (Err e) old new is = tt

  pub recorded_torn : {T E : Type 0} (r : Result T E) (old new : List Call) → OnOk r (new ≡ old ++ Write file at from ∷ []) → OnErr r (new ≡ old)
      → InFile file (TornWrite at (length from)) (contents_after (newest_first old)) (contents_after (newest_first new))
  recorded_torn (Ok x) old new is same =
      subst (λ (l : List Call). InFile file (TornWrite at (length from)) (contents_after (newest_first old)) (contents_after l)) (sym (newest_push old new (Write file at from) is)) (write_step file at from (newest_first old))
  recorded_torn (Err e) old new is same = in_file_same file _ _ _ (torn_same at (length from)) (ap (λ (l : List Call). contents_after (newest_first l)) same)

pub recorded_torn_cut : {T E : Type 0} (file : FileId) (to : ℕ) (r : Result T E) (old new : List Call) → OnOk r (new ≡ old ++ Cut file to ∷ []) → OnErr r (new ≡ old)
    → InFile file (TornCut to) (contents_after (newest_first old)) (contents_after (newest_first new))
recorded_torn_cut file to (Ok x) old new is same =
    subst (λ (l : List Call). InFile file (TornCut to) (contents_after (newest_first old)) (contents_after l)) (sym (newest_push old new (Cut file to) is)) (cut_step file to (newest_first old))
recorded_torn_cut file to (Err e) old new is same = in_file_same file _ _ _ (cut_same to) (ap (λ (l : List Call). contents_after (newest_first l)) same)

-- what a crash may leave after the call is a step from what it might have left before
pub recorded_write_crash : {T E : Type 0} (file : FileId) (at : ℕ) (from : List ℕ) (r : Result T E) (old new : List Call) → OnOk r (new ≡ old ++ Write file at from ∷ []) → OnErr r (new ≡ old)
    → (i : Image) → MayLeave (newest_first new) i → After file (TornWrite at (length from)) (MayLeave (newest_first old)) i
recorded_write_crash file at from (Ok x) old new is same i now = subst (λ (l : List Call). MayLeave l i) (newest_push old new (Write file at from) is) now
recorded_write_crash file at from (Err e) old new is same i now =
    stays file _ _ i (subst (λ (l : List Call). MayLeave (newest_first l) i) same now) (torn_same at (length from) (i file))

pub recorded_cut_crash : {T E : Type 0} (file : FileId) (to : ℕ) (r : Result T E) (old new : List Call) → OnOk r (new ≡ old ++ Cut file to ∷ []) → OnErr r (new ≡ old)
    → (i : Image) → MayLeave (newest_first new) i → After file (TornCut to) (MayLeave (newest_first old)) i
recorded_cut_crash file to (Ok x) old new is same i now = subst (λ (l : List Call). MayLeave l i) (newest_push old new (Cut file to) is) now
recorded_cut_crash file to (Err e) old new is same i now =
    stays file _ _ i (subst (λ (l : List Call). MayLeave (newest_first l) i) same now) (cut_same to (i file))

pub recorded_cut : {T E : Type 0} (file : FileId) (to : ℕ) (r : Result T E) (old new : List Call) → OnOk r (new ≡ old ++ Cut file to ∷ []) → OnOk r (InFile file (Shortened to) (contents_after (newest_first old)) (contents_after (newest_first new)))
recorded_cut file to (Ok x) old new is =
    subst (λ (l : List Call). InFile file (Shortened to) (contents_after (newest_first old)) (contents_after l)) (sym (newest_push old new (Cut file to) is)) (record {
      here = at_file file _ _;
      elsewhere = λ other apart. at_other other file _ _ apart;
    })
recorded_cut file to (Err e) old new is = tt

pub recorded_sync : {T E : Type 0} (file : FileId) (r : Result T E) (old new : List Call) → OnOk r (new ≡ old ++ Sync file ∷ []) → OnOk r (Only file (contents_after (newest_first old) file) (λ i. MayLeave (newest_first new) i))
recorded_sync file (Ok x) old new is = λ i now. let after = subst (λ (l : List Call). MayLeave l i) (newest_push old new (Sync file) is) now in after.1
recorded_sync file (Err e) old new is = tt

pub recorded_sync_contents : {T E : Type 0} (file : FileId) (r : Result T E) (old new : List Call) → OnOk r (new ≡ old ++ Sync file ∷ []) → OnErr r (new ≡ old) → contents_after (newest_first new) ≡ contents_after (newest_first old)
recorded_sync_contents file (Ok x) old new is same = ap contents_after (newest_push old new (Sync file) is)
recorded_sync_contents file (Err e) old new is same = ap (λ (l : List Call). contents_after (newest_first l)) same

pub recorded_sync_crash : {T E : Type 0} (file : FileId) (r : Result T E) (old new : List Call) → OnOk r (new ≡ old ++ Sync file ∷ []) → OnErr r (new ≡ old) → (i : Image) → MayLeave (newest_first new) i → MayLeave (newest_first old) i
recorded_sync_crash file (Ok x) old new is same i now = let after = subst (λ (l : List Call). MayLeave l i) (newest_push old new (Sync file) is) now in after.0
recorded_sync_crash file (Err e) old new is same i now = subst (λ (l : List Call). MayLeave (newest_first l) i) same now
