-- Session ids in paths and queries.
use Rattle.std.proofs.Common.{◌≡◌, ℕ, ◌+◌, ◌-◌, ◌<◌, Bool, true, false, not, ◌⊎◌, List, [], ◌∷◌, ◌++◌, length, get_or, take, drop, codes, eqb, inl, inr, refl, sym, ap, ◌∙◌, ⊎_elim, arith, append-nil, length-append, length-take, length-drop, get_or-take, get_or-drop}
use Rattle.std.specs.Prelude.{filter, flat_map, reverse, nat_eq}
use Rattle.std.specs.List.{slice_split, join_with_byte, list_all, starts_with, position_or_len, suffix_len, prefix_len}
use Rattle.std.specs.Str.{IsUtf8, IsCharBoundary}
use Rattle.std.proofs.lemmas.Bool.{cases_Bool, cond-true, cond-false, and_parts, and_left, and_right, or_from, ne_eqb, eqb-true, true≢false}
use Rattle.std.proofs.lemmas.Bool.Decides.{nat_tests}
use Rattle.std.proofs.lemmas.List.{take_all, drop_all, take-append-le, reverse-append, reverse-reverse}
use Rattle.std.proofs.lemmas.List.Folds.{list_all_at}
use Rattle.std.proofs.lemmas.Str.{IsCharBoundary-after_ascii}
use Rattle.url.specs.Input.{trim_end}
use Rattle.uri_spec.specs.SessionId.{ampersand, equals_sign, has_id, is_id_byte, is_run, is_id_member, query_without_ids}
use Rattle.uri_form.specs.Members.{member_text}

-- ---- parts of a path

pub has_id-short : (part : List ℕ) → length part < 43 → has_id part ≡ false
has_id-short part short =
    let id = take 32 (drop 11 part) in
    let len : length id ≡ 32 → ⊥ = λ e. omega (arith, e, length-take 32 (drop 11 part), length-drop 11 part) in
    and_right _ _ (and_left _ _ (ne_eqb (length id) 32 len))

-- behind a session id a text may be cut
pub boundary_behind_id : (part : List ℕ) → IsUtf8 part → has_id part ≡ true → IsCharBoundary part 43
boundary_behind_id part utf8 has =
    let id = take 32 (drop 11 part) in
    let run = (and_parts (starts_with nat_eq part (codes "jsessionid=")) (is_run is_id_byte 32 id) has).1 in
    let parts = and_parts (eqb (length id) 32) (list_all is_id_byte id) run in
    let len = eqb-true (length id) 32 parts.0 in
    let long : 42 < length part = omega (arith, len, length-take 32 (drop 11 part), length-drop 11 part) in
    let at : get_or id 31 0 ≡ get_or part 42 0 = get_or-take 32 (drop 11 part) 31 0 (omega arith) ∙ get_or-drop 11 part 31 0 in
    let passes : is_id_byte (get_or part 42 0) ≡ true =
    ⊎_elim (λ yes. sym (ap is_id_byte at) ∙ yes) (λ no. absurd (true≢false (sym parts.1 ∙ list_all_at is_id_byte id 31 0 (omega (arith, len)) no))) (cases_Bool (is_id_byte (get_or id 31 0))) in
    let ascii : get_or part 42 0 < 128 = grind (arith, nat_tests) in
    IsCharBoundary-after_ascii part 42 utf8 long ascii

-- ---- members of a query

pub is_id_member-unnamed : (member : List ℕ) → position_or_len (λ b. eqb b equals_sign) member ≡ length member → is_id_member member ≡ false
is_id_member-unnamed member none =
    let rest : drop (position_or_len (λ b. eqb b equals_sign) member + 1) member ≡ [] = drop_all _ member (omega (arith, none)) in
    rw rest (or_from _ _ (and_right _ _ refl) (and_right _ _ refl))

abbrev after_mark : List ℕ → List ℕ
after_mark member = ampersand ∷ member

abbrev is_kept : List ℕ → Bool
is_kept member = not (is_id_member member)

marked_kept : (ms : List (List ℕ)) → flat_map member_text ms ≡ flat_map after_mark (filter is_kept ms)
marked_kept [] = refl
marked_kept (m ∷ ms) =
    let rest = marked_kept ms in
    ⊎_elim (λ yes. rw yes rest) (λ no. rw no (ap (λ t. after_mark m ++ t) rest)) (cases_Bool (is_id_member m))

pub marked_join : (m : List ℕ) (ms : List (List ℕ)) → flat_map after_mark (m ∷ ms) ≡ ampersand ∷ join_with_byte ampersand (m ∷ ms)
marked_join m [] = append-nil (after_mark m)
marked_join m (n ∷ ms) = ap (λ t. after_mark m ++ t) (marked_join n ms)

joined_cases : (ks : List (List ℕ)) → ((flat_map after_mark ks ≡ []) × (join_with_byte ampersand ks ≡ [])) ⊎ (flat_map after_mark ks ≡ ampersand ∷ join_with_byte ampersand ks)
joined_cases [] = inl (refl, refl)
joined_cases (k ∷ ks) = inr (marked_join k ks)

-- the members behind their marks, without the first mark
pub joined_is : (query result : List ℕ) → let written = flat_map member_text (slice_split (λ b. eqb b ampersand) query) in (written ≡ [] → result ≡ []) → ((rest : List ℕ) → written ≡ ampersand ∷ rest → result ≡ rest) → result ≡ query_without_ids query
joined_is query result none some =
    let ms = slice_split (λ b. eqb b ampersand) query in
    ⊎_elim
    (λ empty. none (marked_kept ms ∙ empty.0) ∙ sym empty.1)
    (λ full. some (join_with_byte ampersand (filter is_kept ms)) (marked_kept ms ∙ full))
    (joined_cases (filter is_kept ms))

-- ---- the end of a query

pub trim_end-more : (p : ℕ → Bool) (xs : List ℕ) (c : ℕ) → p c ≡ true → trim_end p (xs ++ c ∷ []) ≡ trim_end p xs
trim_end-more p xs c passes =
    let turned : suffix_len p (xs ++ c ∷ []) ≡ suffix_len p xs + 1 = ap (prefix_len p) (reverse-append xs (c ∷ [])) ∙ cond-true _ _ _ passes ∙ omega arith in
    let len : length (xs ++ c ∷ []) - suffix_len p (xs ++ c ∷ []) ≡ length xs - suffix_len p xs = omega (arith, turned, length-append xs (c ∷ [])) in
    ap (λ n. take n (xs ++ c ∷ [])) len ∙ take-append-le (length xs - suffix_len p xs) xs (c ∷ []) (omega arith)

stops : (p : ℕ → Bool) (ys : List ℕ) → ((c : ℕ) (front : List ℕ) → reverse ys ≡ front ++ c ∷ [] → p c ≡ false) → prefix_len p ys ≡ 0
stops p [] last = refl
stops p (y ∷ ys) last = cond-false _ _ _ (last y (reverse ys) (reverse-append (y ∷ []) ys))

pub trim_end-none : (p : ℕ → Bool) (xs : List ℕ) → ((c : ℕ) (front : List ℕ) → xs ≡ front ++ c ∷ [] → p c ≡ false) → trim_end p xs ≡ xs
trim_end-none p xs last =
    let zero : suffix_len p xs ≡ 0 = stops p (reverse xs) (λ c front e. last c front (sym (reverse-reverse xs) ∙ e)) in
    take_all _ xs (omega (arith, zero))
