-- Discovery paths: few enough letters, each a hop, and the last one.
use Rattle.std.proofs.Common.{◌≡◌, ℕ, ◌-◌, ◌≤◌, Bool, true, not, List, [], ◌∷◌, ◌++◌, length, cond, Option, Some, None, All, refl, sym, ap, ◌∙◌, ⊎_elim, arith, length-drop}
use Rattle.std.specs.Prelude.{is_none, nat_lt, option_map, position, slice_get}
use Rattle.std.specs.List.{position_or_len}
use Rattle.std.specs.Option.{option_or}
use Rattle.std.proofs.lemmas.Bool.{cases_Bool, cond-true, ltb-false, not-false}
use Rattle.std.proofs.lemmas.List.Elements.{All-nil, All-cons, All-append, All-drop, All-from_get_or}
use Rattle.std.proofs.lemmas.List.Sums.{fails_before_first}
use Rattle.url.proofs.InputLemmas.{Passes}
use Rattle.crawl_kinds.specs.Text.{is_hop, is_text, text_fault}
use Rattle.crawl_kinds.specs.declared.text.TextFault.TheVariants.{TooLong, BadByte}
use Rattle.crawl_history.specs.Adds.{last_letters}
use Rattle.crawl_history.specs.Scans.{last_of}
use Rattle.uri_form.proofs.Fits.{fits}

-- ---- texts

no_place : (o : Option ℕ) → is_none (option_map BadByte o) ≡ true → o ≡ None
no_place None e = refl
no_place (Some i) e = cc

none_before_end : (p : ℕ → Bool) (xs : List ℕ) → position p xs ≡ None → length xs ≤ position_or_len p xs
none_before_end p xs none =
    ⊎_elim
    (λ inside. absurd (let found = cond-true (nat_lt (position_or_len p xs) (length xs)) (Some (position_or_len p xs)) None inside in cc))
    (λ past. ltb-false _ _ past)
    (cases_Bool (nat_lt (position_or_len p xs) (length xs)))

-- a text has few enough bytes, each of which is allowed
pub of_text : (p : ℕ → Bool) (most : ℕ) (xs : List ℕ) → is_text p most xs ≡ true → (length xs ≤ most) × All (Passes p) xs
of_text p most xs is =
    ⊎_elim
    (λ long. absurd (let fault = ap (λ b. is_none (cond b (Some (TooLong (length xs))) (option_map BadByte (position (λ b. not (p b)) xs)))) (sym long) ∙ is in cc))
    (λ short.
    let none = no_place _ (ap (λ b. is_none (cond b (Some (TooLong (length xs))) (option_map BadByte (position (λ b. not (p b)) xs)))) (sym short) ∙ is) in (
      ltb-false _ _ short,
      All-from_get_or (Passes p) xs 0 (λ i inside. not-false _ (fails_before_first (λ b. not (p b)) xs i 0 (let past = none_before_end (λ b. not (p b)) xs none in omega arith))),
    ))
    (cases_Bool (nat_lt most (length xs)))

-- ---- one letter more

pub letter_fits : (xs : List ℕ) (y : ℕ) → is_text is_hop 250 xs ≡ true → is_hop y ≡ true → text_fault is_hop 250 (last_letters (xs ++ y ∷ [])) ≡ None
letter_fits xs y path hop =
    fits is_hop 250 (last_letters (xs ++ y ∷ [])) (omega (arith, length-drop (length (xs ++ y ∷ []) - 250) (xs ++ y ∷ [])))
    (All-drop (Passes is_hop) _ (xs ++ y ∷ []) (All-append (Passes is_hop) xs (y ∷ []) (of_text is_hop 250 xs path).1 (All-cons (Passes is_hop) y [] hop (All-nil (Passes is_hop)))))

-- ---- the last letter

or_some : (o : Option ℕ) (x y : ℕ) → option_or (option_or o (Some x)) (Some y) ≡ option_or o (Some x)
or_some None x y = refl
or_some (Some z) x y = refl

last_from : (x : ℕ) (xs : List ℕ) → last_of (λ letter. Some letter) (x ∷ xs) ≡ slice_get (x ∷ xs) (length xs)
last_from x [] = refl
last_from x (y ∷ ys) = or_some (last_of (λ letter. Some letter) ys) y x ∙ last_from y ys

pub last_letter : (xs : List ℕ) → slice_get xs (length xs - 1) ≡ last_of (λ letter. Some letter) xs
last_letter [] = refl
last_letter (x ∷ xs) = let back : length xs ≡ length (x ∷ xs) - 1 = omega arith in sym (last_from x xs ∙ ap (slice_get (x ∷ xs)) back)
