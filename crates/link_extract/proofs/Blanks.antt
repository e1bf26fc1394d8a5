-- Blanks are ASCII whitespace.
use Rattle.std.proofs.Common.{◌≡◌, ℕ, Bool, List, refl, ap, ◌∙◌, arith}
use Rattle.std.specs.Char.{is_ascii_whitespace}
use Rattle.std.specs.Str.{IsTrimAscii}
use Rattle.std.proofs.lemmas.Bool.Decides.{nat_tests}
use Rattle.std.proofs.lemmas.Str.Ascii.{trim_ascii_is}
use Rattle.url.specs.Input.{trim_start, trim_end}
use Rattle.link_spec.specs.Words.{is_blank}

one_blank : (b : ℕ) → is_ascii_whitespace b ≡ is_blank b
one_blank b = grind (arith, nat_tests)

blanks : is_ascii_whitespace ≡ is_blank
blanks = λ i b. one_blank b i

pub trimmed_blanks : (text rest : List ℕ) → IsTrimAscii text rest → rest ≡ trim_end is_blank (trim_start is_blank text)
trimmed_blanks text rest trimmed =
    trim_ascii_is text rest (trim_start is_ascii_whitespace text) refl trimmed
    ∙ ap (λ (p : ℕ → Bool). trim_end p (trim_start p text)) blanks
