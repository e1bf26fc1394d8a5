-- Lists of views, and what the rule says of one view, after a step of one seat.
use Rattle.std.proofs.Common.{◌≡◌, ◌≢◌, ℕ, zero, suc, ◌+◌, ◌<◌, ◌≤◌, eqb, List, [], ◌∷◌, ◌++◌, map, length, set, sym, refl, ap, ◌∙◌, subst, ⊎_elim, arith, ne_eqb}
use mathlib.Core.Logic.{dite}
use mathlib.Core.Option.{some, some-injective, some-ne-none}
use native.Mathlib.Decide.{ℕ_discrete}
use lib.ListN.{get_elem?}
use lib.Seq.{map-set}
use prog.Atomic.{either}
use Rattle.atomic_table.proofs.Lists.{at_set, set_again, at_snoc, at_map, set_else}
use Rattle.turn_lock.specs.declared.Doing.{Doing}
use Rattle.turn_lock.specs.declared.Stage.{Stage}
use Rattle.turn_lock.specs.declared.Stage.TheVariants.{Idle, Waiting, Holding}
use Rattle.turn_lock.specs.Turn.{client, HasTurn, HasTicket, Stands, NoneHasTurn}

pub set_there : {A : Type 0} (l : List A) (i : ℕ) (a b : A) → get_elem? l i ≡ some b → get_elem? (set l i a) i ≡ some a
set_there [] i a b e = absurd (some-ne-none b (sym e))
set_there (x ∷ xs) zero a b e = refl
set_there (x ∷ xs) (suc i) a b e = set_there xs i a b e

pub one_at : {A : Type 0} (l : List A) (i j : ℕ) (a b : A) → get_elem? l i ≡ some a → get_elem? l j ≡ some b → j ≡ i → a ≡ b
one_at l i j a b p q e = some-injective a b (sym p ∙ subst (λ k. get_elem? l k ≡ some b) e q)

-- a list of one element, after a write at its place
pub only : {A : Type 0} (l : List A) (a : A) → length l ≡ 1 → set l 0 a ≡ a ∷ []
only [] a e = absurd (omega arith)
only (x ∷ []) a e = refl
only (x ∷ y ∷ l) a e = absurd (omega arith)

-- a view has one ticket at most
pub one_ticket : {S : Type 0} (t u : ℕ) (st : Stage S) → HasTicket t st → HasTicket u st → t ≡ u
one_ticket t u Idle has has' = absurd has
one_ticket t u (Waiting k) has has' = sym has ∙ has'
one_ticket t u (Holding k x) has has' = sym has ∙ has'

module _ {S V : Type 0} where
  -- what holds of each view still does after a step of one seat
  pub stay : (K : ℕ → Doing S V → Type 0) (views : List (Doing S V)) (id : ℕ) (w : Doing S V) → K id w → ((j : ℕ) (d : Doing S V) → j ≢ id → get_elem? views j ≡ some d → K j d)
      → (j : ℕ) (d : Doing S V) → get_elem? (set views id w) j ≡ some d → K j d
  stay K views id w mine others j d e = ⊎_elim (λ (t : (j ≡ id) × (w ≡ d)). subst (λ (x : ℕ × Doing S V). K x.0 x.1) (λ i. (sym t.0 i, t.1 i)) mine)
      (λ (t : (j ≢ id) × (get_elem? views j ≡ some d)). others j d t.0 t.1) (at_set views id j w d e)

  -- the same where a seat comes in
  pub stay_more : (K : ℕ → Doing S V → Type 0) (views : List (Doing S V)) (id : ℕ) (w x : Doing S V) → K id w → ((j : ℕ) → K j x) → ((j : ℕ) (d : Doing S V) → j ≢ id → get_elem? views j ≡ some d → K j d)
      → (j : ℕ) (d : Doing S V) → get_elem? (set views id w ++ x ∷ []) j ≡ some d → K j d
  stay_more K views id w x mine more others j d e = ⊎_elim (stay K views id w mine others j d) (λ (t : x ≡ d). subst (K j) t (more j)) (at_snoc (set views id w) x d j e)

  pub none_before : (views : List (Doing S V)) (id : ℕ) (v w : Doing S V) → get_elem? views id ≡ some v → ¬ HasTurn v.stage → NoneHasTurn (set views id w) → NoneHasTurn views
  none_before views id v w at free after j d e = dite (ℕ_discrete j id)
      (λ same. subst (λ (x : Doing S V). ¬ HasTurn x.stage) (one_at views id j v d at e same) free)
      (λ other. after j d (set_else views id j w other ∙ e))

  pub same_clients : (holds : S → List V → Type 0) (x : S) (views : List (Doing S V)) (id : ℕ) (v w : Doing S V) → get_elem? views id ≡ some v → w.client ≡ v.client → holds x (map client views) → holds x (map client (set views id w))
  same_clients holds x views id v w at e = subst (holds x) (sym (map-set client views id w ∙ (ap (set (map client views) id) e ∙ set_again (map client views) id v.client (at_map client views id v at))))

  -- a ticket that is out is still in one view's hands after a step of one seat
  pub line_stay : (views : List (Doing S V)) (id : ℕ) (me w : Doing S V) (t : ℕ) → get_elem? views id ≡ some me → (HasTicket t me.stage → HasTicket t w.stage)
      → (j : ℕ) (d : Doing S V) → get_elem? views j ≡ some d → HasTicket t d.stage
      → (e : Doing S V) × (get_elem? (set views id w) j ≡ some e) × HasTicket t e.stage
  line_stay views id me w t at keep j d e has = dite (ℕ_discrete j id)
      (λ same. (w, ap (get_elem? (set views id w)) same ∙ set_there views id w me at, keep (subst (λ (x : Doing S V). HasTicket t x.stage) (sym (one_at views id j me d at e same)) has)))
      (λ other. (d, set_else views id j w other ∙ e, has))

  module _ (may : V → Type 0) where
    -- who has a ticket may draw
    pub stands_may : (ticket serving : ℕ) (who : ℕ → ℕ) (now : S) (j t : ℕ) (v : V) (st : Stage S) → HasTicket t st → Stands ticket serving who now may j v st → may v
    stands_may ticket serving who now j t v Idle has k = absurd has
    stands_may ticket serving who now j t v (Waiting u) has k = k.3
    stands_may ticket serving who now j t v (Holding u x) has k = k.3

    -- who has the turn drew the ticket that is served, and may draw
    pub holder : (ticket serving : ℕ) (who : ℕ → ℕ) (now : S) (j : ℕ) (v : V) (st : Stage S) → HasTurn st → Stands ticket serving who now may j v st → (who serving ≡ j) × may v
    holder ticket serving who now j v Idle has k = absurd has
    holder ticket serving who now j v (Waiting t) has k = absurd has
    holder ticket serving who now j v (Holding t x) has k = (ap who (sym k.0) ∙ k.2, k.3)

    -- a view stands as it did when another draws
    pub stands_draw : (ticket serving id : ℕ) (who : ℕ → ℕ) (now : S) (j : ℕ) (v : V) (st : Stage S) → Stands ticket serving who now may j v st
        → Stands (ticket + 1) serving (λ k. either (eqb k ticket) id (who k)) now may j v st
    stands_draw ticket serving id who now j v Idle k = tt
    stands_draw ticket serving id who now j v (Waiting t) k = let l : t < ticket = k.1 in
        (k.0, omega arith, ap (λ b. either b id (who t)) (ne_eqb t ticket (λ e. omega arith)) ∙ k.2, k.3)
    stands_draw ticket serving id who now j v (Holding t x) k = let l : t < ticket = k.1 in
        (k.0, omega arith, ap (λ b. either b id (who t)) (ne_eqb t ticket (λ e. omega arith)) ∙ k.2, k.3, k.4)

    -- and when the holder, another, counts
    pub stands_count : (ticket serving : ℕ) (who : ℕ → ℕ) (now next : S) (id j : ℕ) (v : V) (st : Stage S) → who serving ≡ id → j ≢ id → Stands ticket serving who now may j v st
        → Stands ticket serving who next may j v st
    stands_count ticket serving who now next id j v Idle mine other k = tt
    stands_count ticket serving who now next id j v (Waiting t) mine other k = k
    stands_count ticket serving who now next id j v (Holding t x) mine other k = absurd (other (sym k.2 ∙ ap who k.0 ∙ mine))

    -- and when the holder, another, serves the next
    pub stands_serve : (ticket serving : ℕ) (who : ℕ → ℕ) (now : S) (id j : ℕ) (v : V) (st : Stage S) → who serving ≡ id → j ≢ id → Stands ticket serving who now may j v st
        → Stands ticket (serving + 1) who now may j v st
    stands_serve ticket serving who now id j v Idle mine other k = tt
    stands_serve ticket serving who now id j v (Waiting t) mine other k = let l : serving ≤ t = k.0 in let ne : t ≢ serving = λ e. other (sym k.2 ∙ ap who e ∙ mine) in (omega arith, k.1, k.2, k.3)
    stands_serve ticket serving who now id j v (Holding t x) mine other k = absurd (other (sym k.2 ∙ ap who k.0 ∙ mine))
