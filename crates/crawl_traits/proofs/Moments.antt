-- How a run of calls on a volume goes on.
use Rattle.std.proofs.Common.{◌≢◌, inl, inr, ⊎_elim, ℕ, ◌≤◌, List, ◌∙◌, arith}
use Rattle.crawl_traits.specs.Images.{Image, Elapses, After, Only}
use Rattle.crawl_traits.specs.Runs.{LeavesOnly}
use Rattle.crawl_traits.specs.declared.file.FileId.{FileId}
use Rattle.crawl_traits.specs.declared.volume.Volume.{Ghosts}

module _ {V : Type 0} (of : Ghosts V) where
  -- before the first call
  pub started : (old : V) (P : Image → Type 0) → ((i : Image) → of.left_since old (of.moment old) i → P i) → LeavesOnly of old old P
  started old P here = record { later = omega arith; each = here; before = λ t i le left. inl left }

  -- one call more, after which a crash leaves what has P
  pub goes_on : (old mid new : V) (P may_leave : Image → Type 0) → LeavesOnly of old mid P → Elapses (of.moment mid) (of.moment new) (of.left_since mid) (of.left_since new) may_leave
      → ((i : Image) → may_leave i → P i) → LeavesOnly of old new P
  goes_on old mid new P may_leave so_far time here = record {
    later = omega (arith, so_far.later, time.later);
    each = λ i left. ⊎_elim (so_far.each i) (here i) (time.nothing_else (of.moment old) i so_far.later left);
    before = λ t i le left. ⊎_elim (so_far.before t i le) (λ now. inr (here i now)) (time.nothing_else t i (omega (arith, le, so_far.later)) left);
  }

  pub weaker : (old new : V) (P Q : Image → Type 0) → ((i : Image) → P i → Q i) → LeavesOnly of old new P → LeavesOnly of old new Q
  weaker old new P Q to run = record {
    later = run.later;
    each = λ i left. to i (run.each i left);
    before = λ t i le left. ⊎_elim (λ past. inl past) (λ now. inr (to i now)) (run.before t i le left);
  }

  -- one run after another
  pub joined : (old mid new : V) (P : Image → Type 0) → LeavesOnly of old mid P → LeavesOnly of mid new P → LeavesOnly of old new P
  joined old mid new P first second = record {
    later = omega (arith, first.later, second.later);
    each = λ i left. ⊎_elim (first.each i) (λ now. now) (second.before (of.moment old) i first.later left);
    before = λ t i le left. ⊎_elim (first.before t i le) (λ now. inr now) (second.before t i (omega (arith, le, first.later)) left);
  }

  -- what a crash may leave now is one of the images of the run
  pub now_one : (counts_now : (v : V) (t : ℕ) (i : Image) → t ≤ of.moment v → of.may_leave v i → of.left_since v t i) (old new : V) (P : Image → Type 0) → LeavesOnly of old new P → (i : Image) → of.may_leave new i → P i
  now_one counts_now old new P run i now = run.each i (counts_now new (of.moment old) i run.later now)

  -- a file that the run leaves alone stays on the disk
  pub still_only : (counts_now : (v : V) (t : ℕ) (i : Image) → t ≤ of.moment v → of.may_leave v i → of.left_since v t i) (old new : V) (file other : FileId) (step : List ℕ → List ℕ → Type 0) (bytes : List ℕ)
      → other ≢ file → LeavesOnly of old new (After file step (of.may_leave old)) → Only other bytes (of.may_leave old) → Only other bytes (of.may_leave new)
  still_only counts_now old new file other step bytes apart run only i now =
      let a = now_one counts_now old new (After file step (of.may_leave old)) run i now in
      a.by.elsewhere other apart ∙ only a.old a.was
