-- Which texts are patterns, and where a compiled one is found.
use Rattle.std.proofs.Common.{◌≡◌, ◌≢◌, ◌<◌, ◌≤◌, ℕ, length, List, true, false, Option, Some, None, ⊎_elim, refl, ap, nat_le, get_or, arith}
use Rattle.std.proofs.lemmas.Bool.Decides.{nat_tests}
use Rattle.std.specs.Prelude.{IsSomeAnd, IfSome, chars, is_some}
use Rattle.regex_hir.specs.Re.{Re}
use Rattle.regex_hir.specs.Text.{is_some_and}
use Rattle.regex_hir.specs.Meaning.{meaning}
use Rattle.regex_hir.specs.declared.hir.Hir.{Hir}
use Rattle.regex_syntax.specs.Brackets.{Nested}
use Rattle.regex_syntax.specs.Captures.{SameCaptures}
use Rattle.regex_syntax.specs.Grammar.{Names, group_count, read}
use Rattle.regex_syntax.specs.declared.error.ErrorKind.{ErrorKind}
use Rattle.regex_syntax.specs.declared.error.ErrorKind.TheVariants.{OutOfMemory}
use Rattle.regex_syntax.specs.Verdict.{Reads, Refuses}
use Rattle.regex.specs.Patterns.{default_config, find_str}
use Rattle.regex.specs.Strings.{regex_pattern, regex_source, regex_names}
use Rattle.regex.specs.declared.string.regex.Regex.{Regex}
use Rattle.regex.proofs.ForCallers.{is_match_alike}
use Rattle.scope_spec.specs.Pattern.{is_pattern}
use Rattle.scope_rules.specs.Patterns.{Finds, IsCompiled}

within : (o : Option (Nested Re × Names)) (W : Nested Re × Names → Type 0) → ((x : Nested Re × Names) → W x → x.0.depth ≤ 250) → IsSomeAnd o W
    → is_some_and o (λ x. nat_le x.0.depth 250) ≡ true
within None W low q = absurd q
within (Some x) W low q = let h : x.0.depth ≤ 250 = low x q in grind (arith, nat_tests)

deep : (o : Option (Nested Re × Names)) → IfSome o (λ x. 250 < x.0.depth) → is_some_and o (λ x. nat_le x.0.depth 250) ≡ false
deep None q = refl
deep (Some x) q = grind (arith, nat_tests)

-- what the grammar reads is a pattern
pub read_is_pattern : (source : List ℕ) (hir : Hir) (names : Names) → Reads default_config source hir names → is_pattern source ≡ true
unfolding Reads
read_is_pattern source hir names reads =
    within (read default_config (chars source))
    (λ x. (x.0.depth ≤ 250) × SameCaptures (meaning hir) x.0.value × (names ≡ x.1) × (group_count (meaning hir) ≤ length names)) (λ x held. held.0) reads

-- a text that is refused, and not for memory, is no pattern
pub refused_is_no_pattern : (source : List ℕ) (kind : ErrorKind) → kind ≢ OutOfMemory → Refuses default_config source kind → is_pattern source ≡ false
unfolding Refuses
refused_is_no_pattern source kind other refused =
    ⊎_elim (λ memory. absurd (other memory))
    (λ rest. ⊎_elim (λ none. ap (λ o. is_some_and o (λ x. nat_le x.0.depth 250)) none) (λ far. deep (read default_config (chars source)) far.1) rest) refused

by_option : (o : Option (Nested Re × Names)) (re : Re) (W : Nested Re × Names → Type 0) → ((x : Nested Re × Names) → W x → SameCaptures re x.0.value) → IsSomeAnd o W
    → (text : List ℕ) → ((k : ℕ) → get_or text k 0 < 256) → is_some (find_str re text 0) ≡ is_some_and o (λ x. is_some (find_str x.0.value text 0))
by_option None re W same q text bytes = absurd q
by_option (Some x) re W same q text bytes = is_match_alike (same x q) text bytes true 0

-- what is read of a pattern is found where the pattern is
pub found_by_read : (source : List ℕ) (hir : Hir) (names : Names) → Reads default_config source hir names → Finds source (meaning hir)
unfolding Reads
found_by_read source hir names reads = record {
  same = λ text bytes. by_option (read default_config (chars source)) (meaning hir)
      (λ x. (x.0.depth ≤ 250) × SameCaptures (meaning hir) x.0.value × (names ≡ x.1) × (group_count (meaning hir) ≤ length names)) (λ x held. held.1) reads text bytes;
}

reads_of : (r : Regex) → IsCompiled r → Reads default_config (regex_source r) r.pattern.program.hir (regex_names r)
reads_of r compiled = rw compiled.0 at compiled.1

-- a compiled pattern is found where its text is
pub compiled_finds : (r : Regex) → IsCompiled r → Finds (regex_source r) (regex_pattern r)
compiled_finds r compiled = found_by_read (regex_source r) r.pattern.program.hir (regex_names r) (reads_of r compiled)

pub compiled_is_pattern : (r : Regex) → IsCompiled r → is_pattern (regex_source r) ≡ true
compiled_is_pattern r compiled = read_is_pattern (regex_source r) r.pattern.program.hir (regex_names r) (reads_of r compiled)
