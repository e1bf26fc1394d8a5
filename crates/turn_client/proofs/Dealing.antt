-- Parts that are dealt out, add, and come back.
use Rattle.std.proofs.Common.{◌≡◌, ℕ, suc, ◌+◌, ◌*◌, ◌<◌, ◌≤◌, List, [], ◌∷◌, ◌++◌, length, slice_index_or, sym, refl, ap, ◌∙◌, subst, ⊎_elim, arith, All}
use Rattle.std.proofs.Math.Nat.{suc-mul}
use Rattle.atomic_table.specs.Seated.{TableId}
use Rattle.atomic_table.proofs.Lists.{at_last, at_longer}
use Rattle.turn_client.specs.declared.part.Part.{Part}
use Rattle.turn_client.specs.Rows.{IsPlaced, IsAt, AreDealt, IsReady, HasAdded}
use Rattle.turn_client.proofs.Places.{snoc_at, in_range, found, all_of}

-- what AreDealt says of the part at place k
abbrev pub Is : TableId → ℕ → ℕ → ℕ → ℕ → Part → Type 0
Is id n made room k p = (p.pass.table_id ≡ id) × IsPlaced n k p × IsAt made room p

module _ (id : TableId) (n : ℕ) where
  pub dealt_snoc : (made room : ℕ) (parts : List Part) (p : Part) → AreDealt id n made room parts → Is id n made room (length parts) p → AreDealt id n made room (parts ++ p ∷ [])
  dealt_snoc made room parts p dealt here k q e = ⊎_elim (dealt k q) (λ (t : (k ≡ length parts) × (p ≡ q)). subst (λ (z : ℕ × Part). Is id n made room z.0 z.1) (λ i. (sym t.0 i, t.1 i)) here) (snoc_at parts p q k e)

  pub dealt_before : (made room : ℕ) (parts : List Part) (p : Part) → AreDealt id n made room (parts ++ p ∷ []) → AreDealt id n made room parts
  dealt_before made room parts p dealt k q e = dealt k q (at_longer parts (p ∷ []) k q e)

  pub dealt_last : (made room : ℕ) (parts : List Part) (p : Part) → AreDealt id n made room (parts ++ p ∷ []) → Is id n made room (length parts) p
  dealt_last made room parts p dealt = dealt (length parts) p (at_last parts p (length parts) refl)

  pub ready : (room turns : ℕ) (parts : List Part) → turns ≤ room → AreDealt id n 0 room parts → All (IsReady id turns) parts
  ready room turns parts small dealt = all_of (IsReady id turns) parts (λ k p e. let d = dealt k p e in let left = d.2.1 in (d.0, d.1.0, omega arith))

  pub added : (room turns : ℕ) (old new : List Part) → AreDealt id n 0 room old → length new ≡ length old
      → ((k : ℕ) (d : Part) → k < length old → HasAdded id turns (slice_index_or old k d) (slice_index_or new k d)) → AreDealt id n turns 0 new
  added room turns old new dealt same each k q e = let f = found new k q e in let low : k < length old = subst (λ m. k < m) same f.0 in let o = in_range old k low in let p = o.0 in
      let d = dealt k p o.1 in
      let h : HasAdded id turns p q = subst (λ (z : Part × Part). HasAdded id turns z.0 z.1) (λ i. (o.2 q i, f.1 q i)) (each k q low) in
      let first = h.1 in let end = h.2 in let made = h.3 in let place = d.1 in let none = d.2.0 in let some_number = place.0 in let high = place.1 in (
        h.0,
        (omega arith, omega arith, λ more. let l = place.2 more in omega arith, λ last. let l = place.3 last in omega arith),
        (omega arith, omega arith),
      )

swapped : (a b : ℕ) → a + b ≡ b + a
swapped a b = omega arith

-- one more of the same
pub suc_times : (n m turns : ℕ) → n ≡ m + 1 → turns + m * turns ≡ n * turns
suc_times n m turns e = let above : n ≡ suc m = omega arith in let sum : n * turns ≡ m * turns + turns = ap (λ k. k * turns) above ∙ suc-mul m turns in sym (sum ∙ swapped (m * turns) turns)

-- what all have made, with one more part put in
pub more_made : (all part turns m k n new : ℕ) → new ≡ all + part → part ≡ turns → m ≡ k + 1 → all + m * turns ≡ n * turns → new + k * turns ≡ n * turns
more_made all part turns m k n new sum same long before = let step = suc_times m k turns long in joined (k * turns) (m * turns) (n * turns) all part turns new sum same step before
  where
    joined : (a b c all part turns new : ℕ) → new ≡ all + part → part ≡ turns → turns + a ≡ b → all + b ≡ c → new + a ≡ c
    joined a b c all part turns new sum same step before = omega arith
