-- One line more: what its seed and its prefix add.
use Rattle.std.proofs.Common.{◌≡◌, ℕ, Bool, ◌+◌, ◌<◌, true, false, cond, List, [], ◌∷◌, ◌++◌, length, filter, Option, Some, None, Ok, Err, refl, inl, inr, sym, ap, subst, ◌∙◌, arith, append-nil, length-append}
use Rattle.std.specs.Prelude.{All, count_by}
use Rattle.std.specs.List.{filter_map, cons_option}
use Rattle.std.specs.Str.{IsUtf8}
use Rattle.std.proofs.lemmas.List.Elements.{All-nil, All-push, filter-append, filter_map-append}
use Rattle.std.proofs.lemmas.List.Sums.{sum_by_push}
use Rattle.crawl_kinds.specs.Address.{IsUri}
use Rattle.seed_list.specs.declared.fault.LineFault.{LineFault}
use Rattle.seed_list.specs.declared.fault.LineFault.TheVariants.{Refused}
use Rattle.seed_list.specs.declared.list.SeedList.{SeedList}
use Rattle.seed_list.specs.Bad.{IsRefused, IsRefusedSeed, most_seeds}
use Rattle.seed_list.specs.Lines.{is_passed, is_seed_line, plus_sign}
use Rattle.seed_list.specs.Listing.{AreSeedsOf, IsListOf}
use Rattle.seed_list.specs.Reading.{Answers}
use Rattle.seed_list.specs.Seeds.{prefix_behind, prefix_of, prefixes_in, seed_of, seeds_in}
use Rattle.seed_list.proofs.LineKinds.{passed_no_prefix, passed_no_seed, prefix_of_marked, prefix_of_passed, refused_cases, seed_no_prefix}

pub answer_some : {T : Type 0} (x : T) (o : Option T) → Answers (Ok x) o → o ≡ Some x
answer_some x None (inl e) = cc e
answer_some x None (inr e) = cc e
answer_some x (Some y) (inl e) = cc e
answer_some x (Some y) (inr e) = cc e

answer_none : {T : Type 0} (o : Option T) → Answers (Err Refused) o → o ≡ None
answer_none None h = refl
answer_none (Some y) (inl e) = cc e
answer_none (Some y) (inr e) = cc e

pub answer_refusal : {T : Type 0} (fault : LineFault) (o : Option T) → fault ≡ Refused → Answers (Err fault) o → o ≡ None
answer_refusal {T} fault o e h = answer_none o (subst (λ (f : LineFault). Answers {T = T} (Err f) o) e h)

-- the lists of one line more
kept : {X Y : Type 0} (p : X → Bool) (h : X → Option Y) (xs : List X) (x : X) (y : Y) → p x ≡ true → h x ≡ Some y
    → filter_map h (filter p (xs ++ x ∷ [])) ≡ filter_map h (filter p xs) ++ y ∷ []
kept {X} {Y} p h xs x y e f =
    ap (λ (l : List X). filter_map h l) (filter-append p xs (x ∷ []))
    ∙ filter_map-append h (filter p xs) (filter p (x ∷ []))
    ∙ ap (λ (b : Bool). filter_map h (filter p xs) ++ filter_map h (cond b (x ∷ []) [])) e
    ∙ ap (λ (o : Option Y). filter_map h (filter p xs) ++ cons_option o []) f

dropped : {X Y : Type 0} (p : X → Bool) (h : X → Option Y) (xs : List X) (x : X) → p x ≡ false
    → filter_map h (filter p (xs ++ x ∷ [])) ≡ filter_map h (filter p xs)
dropped {X} {Y} p h xs x e =
    ap (λ (l : List X). filter_map h l) (filter-append p xs (x ∷ []))
    ∙ filter_map-append h (filter p xs) (filter p (x ∷ []))
    ∙ ap (λ (b : Bool). filter_map h (filter p xs) ++ filter_map h (cond b (x ∷ []) [])) e
    ∙ append-nil (filter_map h (filter p xs))

seeds_more : (before : List (List ℕ)) (line seed : List ℕ) → is_seed_line line ≡ true → seed_of line ≡ Some seed
    → seeds_in (before ++ line ∷ []) ≡ seeds_in before ++ seed ∷ []
unfolding seeds_in
seeds_more before line seed kind is = kept is_seed_line seed_of before line seed kind is

seeds_same : (before : List (List ℕ)) (line : List ℕ) → is_seed_line line ≡ false → seeds_in (before ++ line ∷ []) ≡ seeds_in before
unfolding seeds_in
seeds_same before line kind = dropped is_seed_line seed_of before line kind

prefixes_more : (before : List (List ℕ)) (line prefix : List ℕ) → prefix_of line ≡ Some prefix
    → prefixes_in (before ++ line ∷ []) ≡ prefixes_in before ++ prefix ∷ []
unfolding prefixes_in
prefixes_more before line prefix is =
    filter_map-append prefix_of before (line ∷ [])
    ∙ ap (λ (o : Option (List ℕ)). filter_map prefix_of before ++ cons_option o []) is

prefixes_same : (before : List (List ℕ)) (line : List ℕ) → prefix_of line ≡ None → prefixes_in (before ++ line ∷ []) ≡ prefixes_in before
unfolding prefixes_in
prefixes_same before line is =
    filter_map-append prefix_of before (line ∷ [])
    ∙ ap (λ (o : Option (List ℕ)). filter_map prefix_of before ++ cons_option o []) is
    ∙ append-nil (filter_map prefix_of before)

counts : (before : List (List ℕ)) (line : List ℕ) (kind : Bool) → is_seed_line line ≡ kind
    → count_by is_seed_line (before ++ line ∷ []) ≡ count_by is_seed_line before + cond kind 1 0
counts before line kind is =
    sum_by_push (λ (l : List ℕ). cond (is_seed_line l) 1 0) before line
    ∙ ap (λ (b : Bool). count_by is_seed_line before + cond b 1 0) is

counts_more : (before seeds new : List (List ℕ)) (line seed : List ℕ) → is_seed_line line ≡ true → new ≡ seeds ++ seed ∷ []
    → length seeds ≡ count_by is_seed_line before → length new ≡ count_by is_seed_line (before ++ line ∷ [])
counts_more before seeds new line seed kind pushed count =
    let one : count_by is_seed_line (before ++ line ∷ []) ≡ count_by is_seed_line before + 1 = counts before line true kind in
    ap (λ (l : List (List ℕ)). length l) pushed ∙ omega (arith, one, count, length-append seeds (seed ∷ []))

counts_same : (before : List (List ℕ)) (line : List ℕ) → is_seed_line line ≡ false
    → count_by is_seed_line (before ++ line ∷ []) ≡ count_by is_seed_line before
counts_same before line kind =
    let none : count_by is_seed_line (before ++ line ∷ []) ≡ count_by is_seed_line before + 0 = counts before line false kind in
    omega (arith, none)

all_more : (P : List ℕ → Type 0) (seeds new : List (List ℕ)) (seed : List ℕ) → new ≡ seeds ++ seed ∷ [] → P seed → All P seeds → All P new
all_more P seeds new seed pushed one all = subst (λ (l : List (List ℕ)). All P l) (sym pushed) (All-push P seeds seed all one)

-- a line of a job's text
pub list_seed : (old new : SeedList) (line seed prefix : List ℕ) → is_seed_line line ≡ true → seed_of line ≡ Some seed
    → prefix_of line ≡ Some prefix → IsUri seed → new.seeds ≡ old.seeds ++ seed ∷ [] → new.prefixes ≡ old.prefixes ++ prefix ∷ []
    → (before : List (List ℕ)) → IsListOf old before → IsListOf new (before ++ line ∷ [])
list_seed old new line seed prefix kind is makes uri seeds prefixes before list =
    let taken : IsRefused line → ⊥ = λ h. elim (refused_cases line h) [ inl s ↦ cc (s.1, is) | inr p ↦ cc (p.1, makes) ] in
    record {
      seeds = seeds ∙ ap (λ (l : List (List ℕ)). l ++ seed ∷ []) list.seeds ∙ sym (seeds_more before line seed kind is);
      prefixes = prefixes ∙ ap (λ (l : List (List ℕ)). l ++ prefix ∷ []) list.prefixes ∙ sym (prefixes_more before line prefix makes);
      taken = All-push (λ l. IsRefused l → ⊥) before line list.taken taken;
      addresses = all_more IsUri old.seeds new.seeds seed seeds uri list.addresses;
      count = counts_more before old.seeds new.seeds line seed kind seeds list.count;
    }

pub list_prefix : (old new : SeedList) (rest prefix : List ℕ) → prefix_behind rest ≡ Some prefix
    → new.seeds ≡ old.seeds → new.prefixes ≡ old.prefixes ++ prefix ∷ []
    → (before : List (List ℕ)) → IsListOf old before → IsListOf new (before ++ (plus_sign ∷ rest) ∷ [])
list_prefix old new rest prefix is seeds prefixes before list =
    let line : List ℕ = plus_sign ∷ rest in
    let makes : prefix_of line ≡ Some prefix = prefix_of_marked rest ∙ is in
    let taken : IsRefused line → ⊥ = λ h. elim (refused_cases line h) [ inl s ↦ cc s.0 | inr p ↦ cc (p.1, makes) ] in
    record {
      seeds = seeds ∙ list.seeds ∙ sym (seeds_same before line refl);
      prefixes = prefixes ∙ ap (λ (l : List (List ℕ)). l ++ prefix ∷ []) list.prefixes ∙ sym (prefixes_more before line prefix makes);
      taken = All-push (λ l. IsRefused l → ⊥) before line list.taken taken;
      addresses = subst (λ (l : List (List ℕ)). All IsUri l) (sym seeds) list.addresses;
      count = ap (λ (l : List (List ℕ)). length l) seeds ∙ list.count ∙ sym (counts_same before line refl);
    }

pub list_passed : (list : SeedList) (line : List ℕ) → is_passed line ≡ true
    → (before : List (List ℕ)) → IsListOf list before → IsListOf list (before ++ line ∷ [])
list_passed old line kind before list =
    let no_seed = passed_no_seed line kind in
    let no_prefix = passed_no_prefix line kind in
    let taken : IsRefused line → ⊥ = λ h. elim (refused_cases line h) [ inl s ↦ cc (s.0, no_seed) | inr p ↦ cc (p.0, no_prefix) ] in
    record {
      seeds = list.seeds ∙ sym (seeds_same before line no_seed);
      prefixes = list.prefixes ∙ sym (prefixes_same before line (prefix_of_passed line kind));
      taken = All-push (λ l. IsRefused l → ⊥) before line list.taken taken;
      addresses = list.addresses;
      count = list.count ∙ sym (counts_same before line no_seed);
    }

-- a line of seeds that are added
pub seeds_seed : (old new : List (List ℕ)) (line seed : List ℕ) → is_seed_line line ≡ true → seed_of line ≡ Some seed → IsUtf8 line
    → IsUri seed → length old < most_seeds → new ≡ old ++ seed ∷ []
    → (before : List (List ℕ)) → AreSeedsOf old before → AreSeedsOf new (before ++ line ∷ [])
seeds_seed old new line seed kind is utf8 uri room pushed before list =
    let taken : IsRefusedSeed line → ⊥ = λ h. elim h [
      | inl bytes ↦ bytes utf8
      | inr other ↦ elim other [ inl prefix ↦ cc (prefix, seed_no_prefix line kind) | inr none ↦ cc (none.1, is) ]
    ] in
    let one : count_by is_seed_line (before ++ line ∷ []) ≡ count_by is_seed_line before + 1 = counts before line true kind in
    record {
      same = pushed ∙ ap (λ (l : List (List ℕ)). l ++ seed ∷ []) list.same ∙ sym (seeds_more before line seed kind is);
      good = record {
        taken = All-push (λ l. IsRefusedSeed l → ⊥) before line list.good.taken taken;
        room = omega (arith, one, list.count, room);
      };
      addresses = all_more IsUri old new seed pushed uri list.addresses;
      count = counts_more before old new line seed kind pushed list.count;
    }

pub seeds_passed : (seeds : List (List ℕ)) (line : List ℕ) → is_passed line ≡ true → IsUtf8 line
    → (before : List (List ℕ)) → AreSeedsOf seeds before → AreSeedsOf seeds (before ++ line ∷ [])
seeds_passed seeds line kind utf8 before list =
    let no_seed = passed_no_seed line kind in
    let no_prefix = passed_no_prefix line kind in
    let taken : IsRefusedSeed line → ⊥ = λ h. elim h [
      | inl bytes ↦ bytes utf8
      | inr other ↦ elim other [ inl prefix ↦ cc (prefix, no_prefix) | inr none ↦ cc (none.0, no_seed) ]
    ] in
    record {
      same = list.same ∙ sym (seeds_same before line no_seed);
      good = record {
        taken = All-push (λ l. IsRefusedSeed l → ⊥) before line list.good.taken taken;
        room = omega (arith, counts_same before line no_seed, list.good.room);
      };
      addresses = list.addresses;
      count = list.count ∙ sym (counts_same before line no_seed);
    }

-- of no line there is nothing
pub list_none : (list : SeedList) → list.seeds ≡ [] → list.prefixes ≡ [] → IsListOf list []
unfolding seeds_in prefixes_in
list_none list seeds prefixes = record {
  seeds = seeds;
  prefixes = prefixes;
  taken = All-nil (λ l. IsRefused l → ⊥);
  addresses = subst (λ (l : List (List ℕ)). All IsUri l) (sym seeds) (All-nil IsUri);
  count = ap (λ (l : List (List ℕ)). length l) seeds;
}

pub seeds_none : (seeds : List (List ℕ)) → seeds ≡ [] → AreSeedsOf seeds []
unfolding seeds_in
seeds_none seeds none = record {
  same = none;
  good = record { taken = All-nil (λ l. IsRefusedSeed l → ⊥); room = omega arith };
  addresses = subst (λ (l : List (List ℕ)). All IsUri l) (sym none) (All-nil IsUri);
  count = ap (λ (l : List (List ℕ)). length l) none;
}
