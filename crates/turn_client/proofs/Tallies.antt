-- Each call keeps the rule of a tally, and what the rule shows.
use Rattle.std.proofs.Common.{◌≡◌, ◌≢◌, ℕ, zero, suc, ◌+◌, ◌-◌, ◌<◌, ◌≤◌, eqb, List, [], ◌∷◌, length, set, sym, refl, ap, ◌∙◌, subst, ⊎_elim, arith, eq-eqb, ne_eqb}
use mathlib.Core.Logic.{dite}
use mathlib.Core.Option.{some, some-injective, some-ne-none}
use native.Mathlib.Decide.{ℕ_discrete}
use lib.ListN.{get_elem?}
use prog.Atomic.{either}
use Rattle.atomic_table.proofs.Lists.{at_set, set_else}
use Rattle.turn_lock.specs.Duties.{Advances, Forks, Merges, Tells, Shows, Ends}
use Rattle.turn_client.specs.declared.share.Share.{Share}
use Rattle.turn_client.specs.Shares.{highest, whole, MayDraw, more, dealt_room, kept, dealt, joined, nobody, total, made_of, left_of, Fits, Balanced, HasRoom, IsSmall}
use Rattle.turn_client.proofs.Places.{snoc_at}
use Rattle.turn_client.proofs.Totals.{total_set, total_snoc, total_at, total_only}

-- what holds of each share after one is changed
stay : (K : ℕ → Share → Type 0) (views : List Share) (id : ℕ) (w : Share) → K id w → ((j : ℕ) (u : Share) → j ≢ id → get_elem? views j ≡ some u → K j u)
    → (j : ℕ) (u : Share) → get_elem? (set views id w) j ≡ some u → K j u
stay K views id w mine others j u e = ⊎_elim (λ (t : (j ≡ id) × (w ≡ u)). subst (λ (x : ℕ × Share). K x.0 x.1) (λ i. (sym t.0 i, t.1 i)) mine)
    (λ (t : (j ≢ id) × (get_elem? views j ≡ some u)). others j u t.0 t.1) (at_set views id j w u e)

-- a number n that is old has a new owner
moved : (n old new : ℕ) (o : ℕ) → n ≡ old → either (eqb n old) new o ≡ new
moved n old new o e = ap (λ b. either b new o) (eq-eqb n old e)

unmoved : (n old new : ℕ) (o : ℕ) → n ≢ old → either (eqb n old) new o ≡ o
unmoved n old new o e = ap (λ b. either b new o) (ne_eqb n old e)

pub begins : (start : ℕ) → start ≤ highest → Balanced start start (whole start ∷ [])
begins start fits = record { owner = λ _. 0; each = first; made = omega arith; room = omega arith }
  where
    first : (j : ℕ) (v : Share) → get_elem? (whole start ∷ []) j ≡ some v → Fits (λ _. 0) j v
    first zero v e = subst (Fits (λ _. 0) 0) (some-injective (whole start) v e) (record { owns = λ n l h. refl; few = omega arith; empty = λ none. absurd (omega arith) })
    first (suc j) v e = absurd (some-ne-none v (sym e))

pub advances : (start id : ℕ) (v : Share) (x : ℕ) → v.first < v.end → 0 < v.left → Advances (Balanced start) MayDraw id v x (x + 1) (λ v _ _ w. w ≡ more v)
advances start id v x may some_left views b at = let f = b.each id v at in
    let m = total_set made_of views id v (more v) at in let l = total_set left_of views id v (more v) at in let made = b.made in let room = b.room in (
      more v,
      record {
        owner = b.owner;
        each = stay (Fits b.owner) views id (more v) (record { owns = f.owns; few = f.few; empty = λ none. absurd (omega arith) }) (λ j u _ e. b.each j u e);
        made = omega arith;
        room = omega arith;
      },
      may,
      refl,
    )

pub shows : (start id : ℕ) (v : Share) → Shows (Balanced start) id v HasRoom
shows start id v x views b at = let m = total_at made_of views id v at in let l = total_at left_of views id v at in let made = b.made in let room = b.room in
    (omega arith, omega arith)

pub tells : (start id : ℕ) (v : Share) → Tells (Balanced start) id v IsSmall
tells start id v x views b at = let r = shows start id v x views b at in let m = r.0 in let l = r.1 in omega arith

pub forks : (start id : ℕ) (v : Share) → v.first + 1 < v.end → dealt_room ≤ v.left → Forks (Balanced start) id v (kept v) (dealt v)
forks start id v two some_room x views b at = let f = b.each id v at in let last : ℕ = v.end - 1 in let vs : List Share = set views id (kept v) in
    let new : ℕ = length vs in let owner : ℕ → ℕ = λ n. either (eqb n last) new (b.owner n) in
    let m = total_set made_of views id v (kept v) at in let l = total_set left_of views id v (kept v) at in
    let m' = total_snoc made_of vs (dealt v) in let l' = total_snoc left_of vs (dealt v) in let made = b.made in let room = b.room in let small = f.few in
    let mine : b.owner last ≡ id = f.owns last (omega arith) (omega arith) in
    let here : Fits owner id (kept v) = record {
      owns = λ n low high. unmoved n last new (b.owner n) (λ is. omega arith) ∙ f.owns n low (omega arith);
      few = omega arith;
      empty = λ none. absurd (omega arith);
    } in
    let others : (j : ℕ) (u : Share) → j ≢ id → get_elem? views j ≡ some u → Fits owner j u = λ j u ne e. let g = b.each j u e in record {
      owns = λ n low high. let own = g.owns n low high in unmoved n last new (b.owner n) (λ is. ne (sym own ∙ ap b.owner is ∙ mine)) ∙ own;
      few = g.few;
      empty = g.empty;
    } in
    let there : Fits owner new (dealt v) = record {
      owns = λ n low high. moved n last new (b.owner n) (omega arith);
      few = omega arith;
      empty = λ none. absurd (omega arith);
    } in
    record {
      owner = owner;
      each = λ j u e. ⊎_elim (stay (Fits owner) views id (kept v) here others j u)
          (λ (t : (j ≡ new) × (dealt v ≡ u)). subst (λ (z : ℕ × Share). Fits owner z.0 z.1) (λ i. (sym t.0 i, t.1 i)) there) (snoc_at vs (dealt v) u j e);
      made = omega arith;
      room = omega arith;
    }

pub merges : (start id : ℕ) (v : Share) (other : ℕ) (w : Share) → v.first < v.end → w.first < w.end → v.end ≡ w.first → Merges (Balanced start) id v other w (joined v w) nobody
merges start id v other w some_v some_w adjacent x views b at apart there = let both : Share = joined v w in let vs : List Share = set views id both in
    let at_other : get_elem? views other ≡ some w = sym (set_else views id other both apart) ∙ there in
    let f = b.each id v at in let g = b.each other w at_other in
    let owner : ℕ → ℕ = λ n. either (eqb (b.owner n) other) id (b.owner n) in
    let m = total_set made_of views id v both at in let l = total_set left_of views id v both at in
    let m' = total_set made_of vs other w nobody there in let l' = total_set left_of vs other w nobody there in let made = b.made in let room = b.room in
    let mine : Fits owner id both = record {
      owns = λ n low high. dite (ℕ_discrete (b.owner n) other)
          (λ is. moved (b.owner n) other id (b.owner n) is)
          (λ is_not. unmoved (b.owner n) other id (b.owner n) is_not ∙ f.owns n low (less n v.end (λ (late : v.end ≤ n). is_not (g.owns n (omega arith) high))));
      few = g.few;
      empty = λ none. absurd (omega arith);
    } in
    let others : (j : ℕ) (u : Share) → j ≢ other → j ≢ id → get_elem? views j ≡ some u → Fits owner j u = λ j u ne ne' e. let h = b.each j u e in record {
      owns = λ n low high. let own = h.owns n low high in unmoved (b.owner n) other id (b.owner n) (λ is. ne (sym own ∙ is)) ∙ own;
      few = h.few;
      empty = h.empty;
    } in
    record {
      owner = owner;
      each = stay (Fits owner) vs other nobody (record { owns = λ n low high. absurd (omega arith); few = omega arith; empty = λ _. (refl, refl) })
          (λ j u ne e. stay (λ k z. k ≢ other → Fits owner k z) views id both (λ _. mine) (λ k z ne' p not_other. others k z not_other ne' p) j u e ne);
      made = omega arith;
      room = omega arith;
    }
  where
    less : (a b : ℕ) → ¬ (b ≤ a) → a < b
    less a b late = omega arith

pub ends : (start id : ℕ) (v : Share) (x : ℕ) → v.first ≡ 0 → v.end ≡ 32 → Ends (Balanced start) id v x → x ≡ start + v.made
ends start id v x all to e = let b = e.1 in let mine = b.each id v e.2 in
    let made = b.made in
    let sum : total made_of e.0 ≡ v.made = total_only made_of e.0 id v e.2 (λ j u p ne.
    let fits = b.each j u p in let small = fits.few in
    (fits.empty (not_less u.first u.end (λ less. ne (sym (fits.owns u.first (omega arith) less) ∙ mine.owns u.first (omega arith) (omega arith))))).0) in
    omega arith
  where
    not_less : (a b : ℕ) → ¬ (a < b) → b ≤ a
    not_less a b no_less = omega arith
