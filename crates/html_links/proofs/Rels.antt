-- One step of the words of `rel`.
use Rattle.std.proofs.Common.{◌≡◌, ℕ, ◌+◌, ◌<◌, ◌≤◌, Bool, true, false, ◌||◌, List, length, take, drop, refl, sym, ◌∙◌, ap, arith}
use Rattle.std.specs.List.{list_any, slice_split, position_or_len}
use Rattle.std.proofs.lemmas.List.Sums.{fails_before_first}
use Rattle.std.proofs.lemmas.List.Splits.{slice_split_first, slice_split_none}
use Rattle.link_spec.specs.Words.{is_blank}
use Rattle.link_spec.specs.Values.{is_embedding_word}

abbrev any_word : List ℕ → Bool
any_word text = list_any is_embedding_word (slice_split is_blank text)

split-word : (rest : List ℕ) → position_or_len is_blank rest < length rest → any_word rest ≡ is_embedding_word (take (position_or_len is_blank rest) rest) || any_word (drop (position_or_len is_blank rest + 1) rest)
split-word rest h = ap (list_any is_embedding_word) (slice_split_first is_blank rest 0 h)

pub words-more : (rest : List ℕ) (n : ℕ) (all : Bool) → n ≡ position_or_len is_blank rest → n < length rest → is_embedding_word (take n rest) ≡ false → list_any is_embedding_word (slice_split is_blank rest) ≡ all → list_any is_embedding_word (slice_split is_blank (drop (n + 1) rest)) ≡ all
words-more rest n all place h fails w =
    let at = position_or_len is_blank rest in
    let later : Bool = any_word (drop (at + 1) rest) in
    let no : is_embedding_word (take at rest) ≡ false = ap (λ k. is_embedding_word (take k rest)) (sym place) ∙ fails in
    ap (λ k. any_word (drop (k + 1) rest)) place
    ∙ sym (ap (λ b. b || later) no)
    ∙ sym (split-word rest (omega arith))
    ∙ w

pub words-here : (rest : List ℕ) (n : ℕ) (all : Bool) → n ≡ position_or_len is_blank rest → n < length rest → is_embedding_word (take n rest) ≡ true → list_any is_embedding_word (slice_split is_blank rest) ≡ all → true ≡ all
words-here rest n all place h passes w =
    let at = position_or_len is_blank rest in
    let later : Bool = any_word (drop (at + 1) rest) in
    let yes : is_embedding_word (take at rest) ≡ true = ap (λ k. is_embedding_word (take k rest)) (sym place) ∙ passes in
    sym (ap (λ b. b || later) yes) ∙ sym (split-word rest (omega arith)) ∙ w

or-false : (b : Bool) → b || false ≡ b
or-false true = refl
or-false false = refl

pub words-end : (rest : List ℕ) (n : ℕ) (all : Bool) → n ≡ position_or_len is_blank rest → length rest ≤ n → list_any is_embedding_word (slice_split is_blank rest) ≡ all → is_embedding_word rest ≡ all
words-end rest n all place h w =
    sym (ap (list_any is_embedding_word) (slice_split_none is_blank rest (λ k d within. fails_before_first is_blank rest k d (omega arith))) ∙ or-false (is_embedding_word rest)) ∙ w
