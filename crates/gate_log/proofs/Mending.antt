-- What closing the end of a log leaves.
use Rattle.std.proofs.Common.{◌≡◌, inl, inr, ℕ, ◌+◌, ◌-◌, ◌<◌, ◌≤◌, List, [], ◌∷◌, ◌++◌, length, take, drop, replicate, IsTrue, Result, Ok, Err, OnOk, sym, ◌∙◌, ap, subst, arith, append_assoc, length-append, take-append-drop}
use Rattle.std.proofs.lemmas.List.{take_at, drop_all, nil_from_length}
use Rattle.crawl_traits.specs.Images.{Written, TornWrite, Shortened, TornCut, InFile, Only}
use Rattle.crawl_traits.specs.declared.file.FileId.{FileId}
use Rattle.crawl_traits.specs.declared.volume.Volume.{Ghosts}
use Rattle.gate_log.specs.Blocks.{blocks, EndsAfter, EndsAt, Counts}
use Rattle.gate_log.specs.Rest.{RestsAt, KeepsCount}
use Rattle.gate_log.proofs.Unique.{counts_one, short_ends}

-- what holds at Ok, from two facts that hold there of an honest volume
pub on_ok_told : {T E C P Q R : Type 0} (r : Result T E) → ((C → P) → (C → Q) → R) → (C → OnOk r P) → (C → OnOk r Q) → OnOk r R
on_ok_told (Ok x) f p q = f p q
on_ok_told (Err e) f p q = tt

pub short_none : (bodies : List (List ℕ)) (file : List ℕ) → Counts bodies file → length file ≤ 1 → bodies ≡ []
short_none bodies file (inl ends) short = short_ends bodies file ends short
short_none bodies file (inr none) short = none.0

pub short_keeps : (file c : List ℕ) → length file ≤ 1 → TornWrite 0 1 file c → KeepsCount file c
short_keeps file c short torn bodies counts = inr (short_none bodies file counts short, omega (arith, torn.no_longer))

pub short_written : (file c : List ℕ) → length file ≤ 1 → Written 0 (45 ∷ []) file c → c ≡ 45 ∷ []
short_written file c short written =
    written ∙ ap (λ (n : ℕ). replicate n 0 ++ (45 ∷ []) ++ drop (0 + 1) file) (let none : 0 - length file ≡ 0 = omega arith in none) ∙ ap (λ (l : List ℕ). (45 ∷ []) ++ l) (drop_all (0 + 1) file (omega arith))

pub long_ends : (bodies : List (List ℕ)) (file : List ℕ) → Counts bodies file → 1 < length file → EndsAfter bodies file
long_ends bodies file (inl ends) long = ends
long_ends bodies file (inr none) long = absurd (omega (arith, none.1))

module _ (bodies : List (List ℕ)) (file : List ℕ) (ends : EndsAfter bodies file) where
  front : take (length (blocks bodies) + 1) file ≡ blocks bodies ++ ends.gate ∷ []
  front =
      ap (λ (l : List ℕ). take (length (blocks bodies) + 1) l) (ends.spelled ∙ sym (append_assoc (blocks bodies) (ends.gate ∷ []) ends.behind))
      ∙ take_at (blocks bodies ++ ends.gate ∷ []) ends.behind (length (blocks bodies) + 1) (length-append (blocks bodies) (ends.gate ∷ []))

  pub cut_ends : (c : List ℕ) → Shortened (length (blocks bodies) + 1) file c → EndsAt bodies c
  cut_ends c cut = record { gate = ends.gate; all = ends.all; closed = ends.closed; spelled = cut ∙ front }

  pub cut_keeps : (c : List ℕ) → TornCut (length (blocks bodies) + 1) file c → KeepsCount file c
  cut_keeps c torn others counts =
      let rest = drop (length (blocks bodies) + 1) c in
      let is : c ≡ blocks bodies ++ ends.gate ∷ rest =
      sym (take-append-drop (length (blocks bodies) + 1) c) ∙ ap (λ (l : List ℕ). l ++ rest) (torn.before ∙ front) ∙ append_assoc (blocks bodies) (ends.gate ∷ []) rest in
      let kept : Counts bodies c = inl (record { gate = ends.gate; behind = rest; all = ends.all; closed = ends.closed; spelled = is }) in
      subst (λ (bs : List (List ℕ)). Counts bs c) (counts_one bodies others file (inl ends) counts) kept

  pub ends_here : length file ≤ length (blocks bodies) + 1 → EndsAt bodies file
  ends_here short =
      let none : ends.behind ≡ [] = nil_from_length ends.behind (omega (arith, ap length ends.spelled, length-append (blocks bodies) (ends.gate ∷ ends.behind))) in
      record { gate = ends.gate; all = ends.all; closed = ends.closed; spelled = ends.spelled ∙ ap (λ (l : List ℕ). blocks bodies ++ ends.gate ∷ l) none }

-- one synced step that leaves the log at rest
pub rests : {V : Type 0} (of : Ghosts V) (file : FileId) (gate : ℕ) (old new : V) (bytes : List ℕ) (bodies : List (List ℕ)) (step : List ℕ → List ℕ → Type 0) → of.contents old file ≡ bytes
    → InFile file step (of.contents old) (of.contents new) → IsTrue (of.tells new) → Only file (of.contents new file) (of.may_leave new)
    → ((c : List ℕ) → step bytes c → EndsAt bodies c) → gate ≡ length (blocks bodies) → RestsAt of new file gate bodies
rests of file gate old new bytes bodies step is stepped tells durable ends place = record {
  disk = record { tells = tells; only = durable };
  ends = ends (of.contents new file) (subst (λ (b : List ℕ). step b (of.contents new file)) is stepped.here);
  place = place;
}
