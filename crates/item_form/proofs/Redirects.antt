-- The redirects of a path, letter by letter.
use Rattle.std.proofs.Common.{◌≡◌, ℕ, ◌+◌, ◌<◌, Bool, true, false, cond, eqb, List, [], ◌∷◌, ◌++◌, Option, Some, None, refl, ap, ◌∙◌, zero-add, arith}
use Rattle.std.specs.Prelude.{count_by, option_map, IfSome}
use Rattle.std.specs.Option.{option_or}
use Rattle.std.proofs.lemmas.List.Sums.{sum_by-append}
use Rattle.journal_valid.specs.Items.{after_prerequisite, robots_redirects, prerequisite_letter, redirect_letter}
use Rattle.item_form.specs.Items.{redirects_after}

step : (x : ℕ) (ys : List ℕ) (o : Option (List ℕ)) (q p : Bool) → option_or (cond q (Some []) (option_map (λ zs. zs ++ x ∷ []) o)) (cond p (Some (ys ++ x ∷ [])) None) ≡ cond q (Some []) (option_map (λ zs. zs ++ x ∷ []) (option_or o (cond p (Some ys) None)))
step x ys o true p = refl
step x ys (Some zs) false p = refl
step x ys None false true = refl
step x ys None false false = refl

after_push : (xs : List ℕ) (x : ℕ) → after_prerequisite (xs ++ x ∷ []) ≡ cond (eqb x prerequisite_letter) (Some []) (option_map (λ ys. ys ++ x ∷ []) (after_prerequisite xs))
after_push [] x = refl
after_push (y ∷ ys) x =
    ap (λ o. option_or o (cond (eqb y prerequisite_letter) (Some (ys ++ x ∷ [])) None)) (after_push ys x)
    ∙ step x ys (after_prerequisite ys) (eqb x prerequisite_letter) (eqb y prerequisite_letter)

abbrev count : List ℕ → ℕ
count ys = count_by (λ letter. eqb letter redirect_letter) ys

same_both : (b : Bool) (o : Option ℕ) → o ≡ cond b o o
same_both true o = refl
same_both false o = refl

one_more : (n : ℕ) (b : Bool) → Some (n + cond b 1 0) ≡ cond b (Some (n + 1)) (Some n)
one_more n true = refl
one_more n false = ap Some (omega arith)

count_push : (ys : List ℕ) (x : ℕ) → count (ys ++ x ∷ []) ≡ count ys + cond (eqb x redirect_letter) 1 0
count_push ys x = sum_by-append (λ letter. cond (eqb letter redirect_letter) 1 0) ys (x ∷ []) ∙ ap (λ n. count ys + n) (zero-add (cond (eqb x redirect_letter) 1 0))

counted : (x : ℕ) (o : Option (List ℕ)) (q : Bool) → option_map count (cond q (Some []) (option_map (λ ys. ys ++ x ∷ []) o)) ≡ cond q (Some 0) (cond (eqb x redirect_letter) (option_map (λ j. j + 1) (option_map count o)) (option_map count o))
counted x o true = refl
counted x None false = same_both (eqb x redirect_letter) None
counted x (Some ys) false = ap Some (count_push ys x) ∙ one_more (count ys) (eqb x redirect_letter)

pub redirects_push : (xs : List ℕ) (x : ℕ) → robots_redirects (xs ++ x ∷ []) ≡ redirects_after x (robots_redirects xs)
redirects_push xs x = ap (option_map count) (after_push xs x) ∙ counted x (after_prerequisite xs) (eqb x prerequisite_letter)

-- a count is no more than the letters before it
more_by : (n : ℕ) (p r : Bool) (o : Option ℕ) → IfSome o (λ j. j < n) → IfSome (cond p (Some 0) (cond r (option_map (λ j. j + 1) o) o)) (λ j. j < n + 1)
more_by n true r o h = omega arith
more_by n false true None h = tt
more_by n false true (Some j) h = omega arith
more_by n false false None h = tt
more_by n false false (Some j) h = omega arith

pub more_le : (x n : ℕ) (o : Option ℕ) → IfSome o (λ j. j < n) → IfSome (redirects_after x o) (λ j. j < n + 1)
more_le x n o h = more_by n (eqb x prerequisite_letter) (eqb x redirect_letter) o h
