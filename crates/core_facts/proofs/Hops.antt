-- Texts of few enough bytes that pass, paths of hops, and how often a robots file was redirected on one.
use Rattle.std.proofs.Common.{◌≡◌, ℕ, zero, suc, ◌+◌, ◌-◌, ◌≤◌, ◌⊎◌, inl, inr, Bool, true, false, ◌||◌, cond, not, ◌==◌, List, [], ◌∷◌, ◌++◌, length, drop, refl, sym, ◌∙◌, ap, subst, arith, Option, Some, None, ltb-false, length-drop}
use Rattle.std.specs.Prelude.{IfSome, nat_lt, is_some, is_none, option_map, count_by, if◌then◌else◌}
use Rattle.std.specs.List.{list_any, prefix_len, AllByRecursion}
use Rattle.std.specs.Option.{option_or}
use Rattle.std.proofs.lemmas.List.Elements.{All-from_recursion}
use Rattle.std.proofs.lemmas.List.Sums.{sum_by-append, count_by-le-length}
use Rattle.crawl_kinds.specs.Text.{is_text, is_hop}
use Rattle.crawl_kinds.specs.declared.text.TextFault.TheVariants.{TooLong, BadByte}
use Rattle.crawl_history.specs.Adds.{last_letters, robots_path, redirect_path}
use Rattle.uri_form.proofs.Fits.{fits}
use Rattle.journal_valid.specs.Items.{prerequisite_letter, redirect_letter, after_prerequisite, robots_redirects}

-- ---- texts

full : (p : ℕ → Bool) (xs : List ℕ) → length xs ≤ prefix_len (λ b. not (not (p b))) xs → AllByRecursion (λ b. p b ≡ true) xs
full p [] h = tt
full p (x ∷ xs) h = by_test (p x) refl h (full p xs)
  where
    by_test :
        (b : Bool) → p x ≡ b → length (x ∷ xs) ≤ cond (not (not b)) (1 + prefix_len (λ b. not (not (p b))) xs) 0
        → (length xs ≤ prefix_len (λ b. not (not (p b))) xs → AllByRecursion (λ b. p b ≡ true) xs)
        → (p x ≡ true) × AllByRecursion (λ b. p b ≡ true) xs
    by_test true is h more = (is, more (omega arith))
    by_test false is h more = absurd (omega arith)

-- a text has no more bytes than it may, and all pass
pub record Passing (p : ℕ → Bool) (most : ℕ) (xs : List ℕ) : Type 0 where
  pub few : length xs ≤ most
  pub all : AllByRecursion (λ b. p b ≡ true) xs

pub text_tells : (p : ℕ → Bool) (most : ℕ) (xs : List ℕ) → is_text p most xs ≡ true → Passing p most xs
text_tells p most xs is =
    by_tests (nat_lt most (length xs)) (nat_lt (prefix_len (λ b. not (not (p b))) xs) (length xs)) refl refl is
  where
    by_tests :
        (long bad : Bool) → nat_lt most (length xs) ≡ long → nat_lt (prefix_len (λ b. not (not (p b))) xs) (length xs) ≡ bad
        → is_none (cond long (Some (TooLong (length xs))) (option_map BadByte (cond bad (Some (prefix_len (λ b. not (not (p b))) xs)) None))) ≡ true
        → Passing p most xs
    by_tests true bad l e h = cc h
    by_tests false true l e h = cc h
    by_tests false false l e h = record { few = ltb-false most (length xs) l; all = full p xs (ltb-false (prefix_len (λ b. not (not (p b))) xs) (length xs) e) }

pub text_from : (p : ℕ → Bool) (most : ℕ) (xs : List ℕ) → Passing p most xs → is_text p most xs ≡ true
text_from p most xs passing = ap is_none (fits p most xs passing.few (All-from_recursion (λ b. p b ≡ true) xs passing.all))

pub all-append : {X : Type 0} (P : X → Type 0) (xs ys : List X) → AllByRecursion P xs → AllByRecursion P ys → AllByRecursion P (xs ++ ys)
all-append P [] ys all more = more
all-append P (x ∷ xs) ys all more = (all.0, all-append P xs ys all.1 more)

all-drop : {X : Type 0} (P : X → Type 0) (n : ℕ) (xs : List X) → AllByRecursion P xs → AllByRecursion P (drop n xs)
all-drop P zero xs all = all
all-drop P (suc n) [] all = tt
all-drop P (suc n) (x ∷ xs) all = all-drop P n xs all.1

-- ---- the letters after the last P

after-hop :
    (xs : List ℕ) (letter : ℕ) → (letter == prerequisite_letter) ≡ false
    → after_prerequisite (xs ++ letter ∷ []) ≡ option_map (λ ys. ys ++ letter ∷ []) (after_prerequisite xs)
after-hop [] letter other = ap (λ b. option_or None (if b then Some [] else None)) other
after-hop (x ∷ xs) letter other =
    ap (λ o. option_or o (if x == prerequisite_letter then Some (xs ++ letter ∷ []) else None)) (after-hop xs letter other)
    ∙ by_cases (after_prerequisite xs) (x == prerequisite_letter)
  where
    by_cases :
        (o : Option (List ℕ)) (b : Bool)
        → option_or (option_map (λ ys. ys ++ letter ∷ []) o) (if b then Some (xs ++ letter ∷ []) else None)
        ≡ option_map (λ ys. ys ++ letter ∷ []) (option_or o (if b then Some xs else None))
    by_cases (Some ys) b = refl
    by_cases None true = refl
    by_cases None false = refl

after-prerequisite : (xs : List ℕ) → after_prerequisite (xs ++ prerequisite_letter ∷ []) ≡ Some []
after-prerequisite [] = refl
after-prerequisite (x ∷ xs) = ap (λ o. option_or o (if x == prerequisite_letter then Some (xs ++ prerequisite_letter ∷ []) else None)) (after-prerequisite xs)

after-drop : (n : ℕ) (xs : List ℕ) → (after_prerequisite (drop n xs) ≡ None) ⊎ (after_prerequisite (drop n xs) ≡ after_prerequisite xs)
after-drop zero xs = inr refl
after-drop (suc n) [] = inr refl
after-drop (suc n) (x ∷ xs) = by_rest (after_prerequisite xs) refl (after-drop n xs)
  where
    by_rest :
        (o : Option (List ℕ)) → after_prerequisite xs ≡ o
        → (after_prerequisite (drop n xs) ≡ None) ⊎ (after_prerequisite (drop n xs) ≡ after_prerequisite xs)
        → (after_prerequisite (drop n xs) ≡ None) ⊎ (after_prerequisite (drop n xs) ≡ option_or o (if x == prerequisite_letter then Some xs else None))
    by_rest o is (inl none) = inl none
    by_rest None is (inr same) = inl (same ∙ is)
    by_rest (Some ys) is (inr same) = inr (same ∙ is)

after-shorter : (xs : List ℕ) → IfSome (after_prerequisite xs) (λ ys. length ys ≤ length xs)
after-shorter [] = tt
after-shorter (x ∷ xs) = by_rest (after_prerequisite xs) (x == prerequisite_letter) (after-shorter xs)
  where
    by_rest :
        (o : Option (List ℕ)) (b : Bool) → IfSome o (λ ys. length ys ≤ length xs)
        → IfSome (option_or o (if b then Some xs else None)) (λ ys. length ys ≤ length (x ∷ xs))
    by_rest (Some ys) b h = omega arith
    by_rest None true h = omega arith
    by_rest None false h = tt

any-after : (xs : List ℕ) → list_any (λ b. b == prerequisite_letter) xs ≡ is_some (after_prerequisite xs)
any-after [] = refl
any-after (x ∷ xs) = ap (λ b. x == prerequisite_letter || b) (any-after xs) ∙ by_cases (x == prerequisite_letter) (after_prerequisite xs)
  where
    by_cases : (b : Bool) (o : Option (List ℕ)) → (b || is_some o) ≡ is_some (option_or o (if b then Some xs else None))
    by_cases true None = refl
    by_cases true (Some ys) = refl
    by_cases false None = refl
    by_cases false (Some ys) = refl

-- ---- redirects of a robots file

abbrev pub redirects_in : List ℕ → ℕ
redirects_in letters = count_by (λ letter. letter == redirect_letter) letters

pub redirects-few : (path : List ℕ) → IfSome (robots_redirects path) (λ j. j ≤ length path)
redirects-few path = by_after (after_prerequisite path) (after-shorter path)
  where
    by_after : (o : Option (List ℕ)) → IfSome o (λ ys. length ys ≤ length path) → IfSome (option_map redirects_in o) (λ j. j ≤ length path)
    by_after None h = tt
    by_after (Some ys) h = let few = count_by-le-length (λ letter. letter == redirect_letter) ys in omega (arith, few, h)

redirects-drop : (n : ℕ) (path : List ℕ) → IfSome (robots_redirects path) (λ j. j ≤ 5) → IfSome (robots_redirects (drop n path)) (λ j. j ≤ 5)
redirects-drop n path h = by_after (after-drop n path)
  where
    by_after :
        (after_prerequisite (drop n path) ≡ None) ⊎ (after_prerequisite (drop n path) ≡ after_prerequisite path)
        → IfSome (robots_redirects (drop n path)) (λ j. j ≤ 5)
    by_after (inl none) = subst (λ o. IfSome (option_map redirects_in o) (λ j. j ≤ 5)) (sym none) tt
    by_after (inr same) = subst (λ o. IfSome (option_map redirects_in o) (λ j. j ≤ 5)) (sym same) h

redirects-prerequisite : (path : List ℕ) → robots_redirects (path ++ prerequisite_letter ∷ []) ≡ Some 0
redirects-prerequisite path = ap (option_map redirects_in) (after-prerequisite path)

redirects-redirect : (path : List ℕ) (j : ℕ) → robots_redirects path ≡ Some j → robots_redirects (path ++ redirect_letter ∷ []) ≡ Some (j + 1)
redirects-redirect path j is = ap (option_map redirects_in) (after-hop path redirect_letter refl) ∙ by_after (after_prerequisite path) is
  where
    same_some : (m n : ℕ) → Some m ≡ Some n → m ≡ n
    same_some m n e = cc e

    by_after : (o : Option (List ℕ)) → option_map redirects_in o ≡ Some j → option_map redirects_in (option_map (λ ys. ys ++ redirect_letter ∷ []) o) ≡ Some (j + 1)
    by_after None e = cc e
    by_after (Some ys) e =
        ap Some (sum_by-append (λ letter. cond (letter == redirect_letter) 1 0) ys (redirect_letter ∷ []) ∙ ap (λ n. n + 1) (same_some (redirects_in ys) j e))

-- a hop of another page begins no robots file, or begins one
pub redirects-hop : (path : List ℕ) (letter : ℕ) → robots_redirects path ≡ None → IfSome (robots_redirects (path ++ letter ∷ [])) (λ j. j ≤ 5)
redirects-hop path letter none = by_letter (letter == prerequisite_letter) refl
  where
    no_after : (o : Option (List ℕ)) → option_map redirects_in o ≡ None → option_map redirects_in (option_map (λ ys. ys ++ letter ∷ []) o) ≡ None
    no_after None e = refl
    no_after (Some ys) e = cc e

    is_p : (l : ℕ) → (l == prerequisite_letter) ≡ true → l ≡ prerequisite_letter
    is_p l e = grind arith

    by_letter : (b : Bool) → (letter == prerequisite_letter) ≡ b → IfSome (robots_redirects (path ++ letter ∷ [])) (λ j. j ≤ 5)
    by_letter true is =
        subst (λ l. IfSome (robots_redirects (path ++ l ∷ [])) (λ j. j ≤ 5)) (sym (is_p letter is))
        (subst (λ o. IfSome o (λ j. j ≤ 5)) (sym (redirects-prerequisite path)) (omega arith))
    by_letter false is =
        subst (λ o. IfSome o (λ j. j ≤ 5)) (sym (ap (option_map redirects_in) (after-hop path letter is) ∙ no_after (after_prerequisite path) none)) tt

-- ---- the paths of robots files

last_letters-text : (xs : List ℕ) → AllByRecursion (λ b. is_hop b ≡ true) xs → is_text is_hop 250 (last_letters xs) ≡ true
last_letters-text xs all =
    text_from is_hop 250 (last_letters xs) (record { few = omega (arith, length-drop (length xs - 250) xs); all = all-drop (λ b. is_hop b ≡ true) (length xs - 250) xs all })

pub robots_path-text : (path : List ℕ) → is_text is_hop 250 path ≡ true → is_text is_hop 250 (robots_path path) ≡ true
robots_path-text path is =
    last_letters-text (path ++ prerequisite_letter ∷ []) (all-append (λ b. is_hop b ≡ true) path (prerequisite_letter ∷ []) (text_tells is_hop 250 path is).all (refl, tt))

pub robots_path-redirects : (path : List ℕ) → IfSome (robots_redirects (robots_path path)) (λ j. j ≤ 5)
robots_path-redirects path =
    redirects-drop (length (path ++ prerequisite_letter ∷ []) - 250) (path ++ prerequisite_letter ∷ [])
    (subst (λ o. IfSome o (λ j. j ≤ 5)) (sym (redirects-prerequisite path)) (omega arith))

pub redirect_path-text : (path : List ℕ) → is_text is_hop 250 path ≡ true → is_text is_hop 250 (redirect_path path) ≡ true
redirect_path-text path is =
    last_letters-text _
    (all-append (λ b. is_hop b ≡ true) (if list_any (λ b. b == prerequisite_letter) path then path else path ++ prerequisite_letter ∷ []) (redirect_letter ∷ [])
    (by_any (list_any (λ b. b == prerequisite_letter) path)) (refl, tt))
  where
    hops : AllByRecursion (λ b. is_hop b ≡ true) path
    hops = (text_tells is_hop 250 path is).all

    by_any : (b : Bool) → AllByRecursion (λ b. is_hop b ≡ true) (if b then path else path ++ prerequisite_letter ∷ [])
    by_any true = hops
    by_any false = all-append (λ b. is_hop b ≡ true) path (prerequisite_letter ∷ []) hops (refl, tt)

-- the path with its P
abbrev turned : List ℕ → List ℕ
turned path = if list_any (λ b. b == prerequisite_letter) path then path else path ++ prerequisite_letter ∷ []

pub redirect_path-redirects : (path : List ℕ) → IfSome (robots_redirects path) (λ j. j + 1 ≤ 5) → IfSome (robots_redirects (redirect_path path)) (λ j. j ≤ 5)
redirect_path-redirects path h =
    redirects-drop (length (turned path ++ redirect_letter ∷ []) - 250) (turned path ++ redirect_letter ∷ [])
    (subst (λ b. IfSome (robots_redirects ((if b then path else path ++ prerequisite_letter ∷ []) ++ redirect_letter ∷ [])) (λ j. j ≤ 5)) (sym (any-after path))
    (by_after (after_prerequisite path) refl h))
  where
    by_after :
        (o : Option (List ℕ)) → after_prerequisite path ≡ o → IfSome (option_map redirects_in o) (λ j. j + 1 ≤ 5)
        → IfSome (robots_redirects ((if is_some o then path else path ++ prerequisite_letter ∷ []) ++ redirect_letter ∷ [])) (λ j. j ≤ 5)
    by_after None e h =
        subst (λ o. IfSome o (λ j. j ≤ 5)) (sym (redirects-redirect (path ++ prerequisite_letter ∷ []) 0 (redirects-prerequisite path))) (omega arith)
    by_after (Some ys) e h =
        subst (λ o. IfSome o (λ j. j ≤ 5)) (sym (redirects-redirect path (redirects_in ys) (ap (option_map redirects_in) e))) h
