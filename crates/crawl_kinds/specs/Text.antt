-- The texts of the crawl: short lists of allowed bytes, and why one is refused.
use Rattle.std.specs.Prelude.{ℕ, Bool, List, length, nat_le, nat_lt, ◌==◌, ◌&&◌, ◌||◌, not, if◌then◌else◌, is_none, Option, Some, position, option_map}
use Rattle.crawl_kinds.specs.declared.text.TextFault.{TextFault}
use Rattle.crawl_kinds.specs.declared.text.TextFault.TheVariants.{TooLong, BadByte}

-- `!` to `~`: no space, no control byte, nothing past ASCII
abbrev pub is_visible : ℕ → Bool
is_visible b = nat_le 33 b && nat_le b 126

-- the letters of a discovery path: L, E, R, X and P
abbrev pub is_hop : ℕ → Bool
is_hop b = b == 76 || b == 69 || b == 82 || b == 88 || b == 80

-- the first fault: too long, or else the first byte that is not allowed
abbrev pub text_fault : (ℕ → Bool) → ℕ → List ℕ → Option TextFault
text_fault allowed most bytes =
    if nat_lt most (length bytes)
    then Some (TooLong (length bytes))
    else option_map BadByte (position (λ b. not (allowed b)) bytes)

-- whether the bytes are a text
abbrev pub is_text : (ℕ → Bool) → ℕ → List ℕ → Bool
is_text allowed most bytes = is_none (text_fault allowed most bytes)
