-- The normal form of what begins with a triple, and of what does not.
use Rattle.std.proofs.Common.{◌≡◌, ℕ, ◌<◌, Bool, true, false, cond, List, [], ◌∷◌, ◌++◌, length, get_or, drop, refl, append-nil, sym, ap, arith, Some, None}
use Rattle.percent_encoding.specs.Percent.{is_escape}
use Rattle.robots_spec.specs.Patterns.{normal, octet_or_triple, escaped_past_ascii}
use Rattle.robots_rules.specs.Reading.{escape_at}

by_test : (t : Bool) (o n : ℕ) (other rest : List ℕ) → cond t (Some n) None ≡ Some o → cond t (octet_or_triple n ++ rest) other ≡ octet_or_triple o ++ rest
by_test true o n other rest e = let same : n ≡ o = cc e in ap (λ m. octet_or_triple m ++ rest) same
by_test false o n other rest e = absurd (cc e)

pub normal-escape : (xs : List ℕ) (o : ℕ) → escape_at xs ≡ Some o → normal xs ≡ octet_or_triple o ++ normal (drop 3 xs)
normal-escape [] o e = absurd (cc e)
normal-escape (b ∷ []) o e = absurd (cc e)
normal-escape (b ∷ c ∷ []) o e = absurd (cc e)
normal-escape (b ∷ high ∷ low ∷ rest) o e = by_test (is_escape b high low) o _ _ (normal rest) e

by_fail : (t : Bool) (n : ℕ) (one other : List ℕ) → cond t (Some n) None ≡ None → cond t one other ≡ other
by_fail true n one other e = absurd (cc e)
by_fail false n one other e = refl

pub normal-octet : (xs : List ℕ) → 0 < length xs → escape_at xs ≡ None → normal xs ≡ escaped_past_ascii (get_or xs 0 0) ++ normal (drop 1 xs)
normal-octet [] h e = absurd (omega arith)
normal-octet (b ∷ []) h e = sym (append-nil (escaped_past_ascii b))
normal-octet (b ∷ c ∷ []) h e = refl
normal-octet (b ∷ high ∷ low ∷ rest) h e = by_fail (is_escape b high low) _ _ _ e
