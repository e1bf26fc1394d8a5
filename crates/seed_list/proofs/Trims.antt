-- Lines without the blanks at their ends, and where a text may be cut for that.
use Rattle.std.proofs.Common.{◌≡◌, ℕ, zero, suc, ◌-◌, ◌<◌, ◌≤◌, true, List, length, take, drop, reverse, get_or, ap, subst, ◌∙◌, arith, add-one}
use Rattle.std.specs.List.{prefix_len, suffix_len}
use Rattle.std.specs.Str.{IsUtf8, IsCharBoundary}
use Rattle.std.proofs.lemmas.Bool.Decides.{nat_tests}
use Rattle.std.proofs.lemmas.List.{get_or-reverse}
use Rattle.std.proofs.lemmas.List.Sums.{prefix_len_passes, prefix_len-le-length, suffix_len-le-length}
use Rattle.std.proofs.lemmas.Str.{IsCharBoundary-start, IsCharBoundary-end, IsCharBoundary-after_ascii, IsCharBoundary-before_ascii}
use Rattle.seed_list.specs.Lines.{is_blank, trimmed}

pub trimmed_is : (line rest : List ℕ) (before behind : ℕ) → before ≡ prefix_len is_blank line → rest ≡ drop before line
    → behind ≡ suffix_len is_blank rest → take (length rest - behind) rest ≡ trimmed line
unfolding trimmed
trimmed_is line rest before behind front is end =
    let whole : rest ≡ drop (prefix_len is_blank line) line = is ∙ ap (λ (n : ℕ). drop n line) front in
    ap (λ (n : ℕ). take (length rest - n) rest) end
    ∙ ap (λ (l : List ℕ). take (length l - suffix_len is_blank l) l) whole

blank_ascii : (b : ℕ) → is_blank b ≡ true → b < 128
blank_ascii b h = grind (arith, nat_tests)

-- a text may be cut behind the blanks at its beginning
pub boundary_from : (line : List ℕ) (n : ℕ) → IsUtf8 line → n ≡ prefix_len is_blank line → IsCharBoundary line n
boundary_from line zero u e = IsCharBoundary-start line u
boundary_from line (suc k) u e =
    let lt : k < prefix_len is_blank line = omega arith in
    let in_line : k < length line = omega (arith, prefix_len-le-length is_blank line) in
    let ascii = blank_ascii (get_or line k 0) (prefix_len_passes is_blank line k 0 lt) in
    subst (λ (n : ℕ). IsCharBoundary line n) (add-one k) (IsCharBoundary-after_ascii line k u in_line ascii)

-- and before those at its end
pub boundary_to : (line : List ℕ) (n : ℕ) → n ≡ suffix_len is_blank line → IsCharBoundary line (length line - n)
boundary_to line zero e = subst (λ (n : ℕ). IsCharBoundary line n) (omega arith) (IsCharBoundary-end line)
boundary_to line (suc k) e =
    let lt : k < prefix_len is_blank (reverse line) = omega arith in
    let in_line : suc k ≤ length line = omega (arith, suffix_len-le-length is_blank line) in
    let place : get_or (reverse line) k 0 ≡ get_or line (length line - suc k) 0 =
    get_or-reverse line k 0 (omega arith) ∙ ap (λ (i : ℕ). get_or line i 0) (omega arith) in
    let ascii = blank_ascii (get_or line (length line - suc k) 0) (subst (λ (b : ℕ). is_blank b ≡ true) place (prefix_len_passes is_blank (reverse line) k 0 lt)) in
    IsCharBoundary-before_ascii line (length line - suc k) (omega arith) ascii
