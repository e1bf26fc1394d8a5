-- Numbers of characters that are cut, and one step of a value.
use Rattle.std.proofs.Common.{◌≡◌, ℕ, ◌<◌, ◌≤◌, min, Bool, true, false, ◌&&◌, cond, ◌⊎◌, inl, inr, List, [], ◌∷◌, ◌++◌, length, take, drop, get_or, refl, sym, ◌∙◌, ap, append_assoc, append-nil, arith, Some, None}
use Rattle.std.specs.Prelude.{encode_utf8}
use Rattle.std.proofs.lemmas.Bool.{cases_lt}
use Rattle.std.proofs.lemmas.Bool.Decides.{nat_tests}
use Rattle.std.proofs.lemmas.Grind.{common_steps}
use Rattle.link_spec.specs.Cut.{Piece}
use Rattle.link_spec.specs.Entities.{decoded, entity, entity_or_byte, or_byte, is_character, numbered}
use Rattle.link_spec.proofs.Cuts.{given-more, given-end}
use Rattle.html_links.specs.Reading.{past_last}

min-low : (n : ℕ) → n < past_last → min past_last n ≡ n
min-low n h = grind (arith, common_steps)

min-high : (n : ℕ) → past_last ≤ n → min past_last n ≡ past_last
min-high n h = grind (arith, common_steps)

high-none : (n : ℕ) → past_last ≤ n → is_character n ≡ false
high-none n h = grind (arith, common_steps, nat_tests)

and_false : (a b : Bool) → b ≡ false → (a && b) ≡ false
and_false true b e = e
and_false false b e = refl

none-by : (t : Bool) (p : Piece ℕ) → t ≡ false → cond t (Some p) None ≡ None
none-by true p e = absurd (cc e)
none-by false p e = refl

by_size : (n k : ℕ) (text : List ℕ) → (n < past_last) ⊎ (past_last ≤ n) → numbered (min past_last n) k text ≡ numbered n k text
by_size n k text (inl h) = ap (λ m. numbered m k text) (min-low n h)
by_size n k text (inr h) =
    let cut : numbered (min past_last n) k text ≡ numbered past_last k text = ap (λ m. numbered m k text) (min-high n h) in
    cut ∙ none-by _ _ (and_false _ _ refl) ∙ sym (none-by _ _ (and_false _ _ (high-none n h)))

-- a number past the last character names none, however far it is
pub numbered-cut : (n k : ℕ) (text : List ℕ) → numbered (min past_last n) k text ≡ numbered n k text
numbered-cut n k text = by_size n k text (cases_lt n past_last)

-- a value of which one reference more is replaced, or one byte more is kept
pub decoded-entity : (own all rest : List ℕ) (p : Piece ℕ) → 0 < length rest → 0 < p.size → Some p ≡ entity rest → own ++ decoded rest ≡ all → (own ++ encode_utf8 p.gives) ++ decoded (drop p.size rest) ≡ all
decoded-entity own all rest p some first e h =
    append_assoc own (encode_utf8 p.gives) (decoded (drop p.size rest))
    ∙ ap (λ xs. own ++ xs) (sym (given-more entity_or_byte rest (or_byte rest (Some p)) some first (ap (λ o. Some (or_byte rest o)) (sym e))))
    ∙ h

first-byte : (rest : List ℕ) → 0 < length rest → take 1 rest ≡ get_or rest 0 0 ∷ []
first-byte [] h = absurd (omega arith)
first-byte (b ∷ rest) h = refl

pub decoded-byte : (own all rest : List ℕ) → 0 < length rest → None ≡ entity rest → own ++ decoded rest ≡ all → (own ++ get_or rest 0 0 ∷ []) ++ decoded (drop 1 rest) ≡ all
decoded-byte own all rest some e h =
    append_assoc own (get_or rest 0 0 ∷ []) (decoded (drop 1 rest))
    ∙ ap (λ xs. own ++ (xs ++ decoded (drop 1 rest))) (sym (first-byte rest some))
    ∙ ap (λ xs. own ++ xs) (sym (given-more entity_or_byte rest (or_byte rest None) some (omega arith) (ap (λ o. Some (or_byte rest o)) (sym e))))
    ∙ h

pub decoded-end : (own all rest : List ℕ) → length rest ≡ 0 → own ++ decoded rest ≡ all → own ≡ all
decoded-end own all [] e h = sym (ap (λ xs. own ++ xs) (given-end entity_or_byte) ∙ append-nil own) ∙ h
decoded-end own all (b ∷ rest) e h = absurd (omega arith)
