-- A job's name: its length, and that its bytes are visible.
use Rattle.std.proofs.Common.{◌≡◌, ℕ, true, false, not, ◌&&◌, ltb, List, [], ◌∷◌, length, refl, arith}
use Rattle.std.specs.Prelude.{nat_le}
use Rattle.std.specs.List.{list_all, position_or_len}
use Rattle.std.proofs.lemmas.Bool.{and_parts, leb-true}
use Rattle.std.proofs.lemmas.Bool.Decides.{nat_tests}
use Rattle.crawl_kinds.specs.Text.{is_text, is_visible}
use Rattle.job_spec.specs.Texts.{is_name, is_name_byte}
use Rattle.job_ranges.specs.Laws.{IsFrom}

pub name_length : (text : List ℕ) → is_name text ≡ true → IsFrom 1 32 (length text)
unfolding is_name
name_length text is =
    let parts = and_parts (nat_le 1 (length text) && nat_le (length text) 32) (list_all is_name_byte text) is in
    let bounds = and_parts (nat_le 1 (length text)) (nat_le (length text) 32) parts.0 in
    (leb-true _ _ bounds.0, leb-true _ _ bounds.1)

visible : (b : ℕ) → is_name_byte b ≡ true → is_visible b ≡ true
visible b is = grind (arith, nat_tests)

-- the first byte that is not visible is none
all_visible : (text : List ℕ) → list_all is_name_byte text ≡ true → position_or_len (λ b. not (is_visible b)) text ≡ length text
all_visible [] all = refl
all_visible (b ∷ text) all =
    let parts = and_parts (is_name_byte b) (list_all is_name_byte text) all in
    rw (visible b parts.0) (omega (arith, all_visible text parts.1))

pub name_visible : (text : List ℕ) → is_name text ≡ true → is_text is_visible 2200 text ≡ true
unfolding is_name
name_visible text is =
    let all = (and_parts (nat_le 1 (length text) && nat_le (length text) 32) (list_all is_name_byte text) is).1 in
    let short = name_length text is in
    let fits : ltb 2200 (length text) ≡ false = grind (arith, nat_tests) in
    let end : ltb (length text) (length text) ≡ false = grind (arith, nat_tests) in
    rw (fits, all_visible text all, end)
