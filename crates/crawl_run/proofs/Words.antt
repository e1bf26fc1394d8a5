-- The words behind the first, as texts and as bytes.
use Rattle.std.proofs.Common.{◌≡◌, ◌≢◌, ℕ, ◌-◌, ◌≤◌, ◌==◌, true, false, ◌∙◌, List, [], ◌∷◌, length, take, drop, map, refl, sym, ap, arith}
use Rattle.std.proofs.lemmas.List.{take_rest}
use Rattle.std.proofs.lemmas.Bool.Decides.{Decides-eqb}
use Rattle.crawl_run.specs.Run.{words_after}

too_few : (n : ℕ) → 1 ≤ n → n ≡ 0 → ⊥
too_few n some none = omega (arith, some, none)

pub words_behind : {X : Type 0} (f : X → List ℕ) (words : List X) → 1 ≤ length words → words_after (map f words) ≡ map f (take (length words - 1) (drop 1 words))
words_behind f [] some = absurd (too_few 0 some refl)
words_behind f (w ∷ words) some = ap (λ l. map f l) (sym (take_rest (w ∷ words) 1))

-- as many texts as bytes
pub no_words : {X : Type 0} (f : X → List ℕ) (words : List X) → true ≡ (length words == 0) → map f words ≡ []
no_words f [] none = refl
no_words f (w ∷ words) none = let clash = (Decides-eqb (length (w ∷ words)) 0).0 (sym none) in absurd (omega (arith, clash))

pub some_words : {X : Type 0} (f : X → List ℕ) (words : List X) → false ≡ (length words == 0) → map f words ≢ []
some_words f [] some is = let clash : false ≡ true = some ∙ (Decides-eqb 0 0).1 refl in cc clash
some_words f (w ∷ words) some is = cc is
