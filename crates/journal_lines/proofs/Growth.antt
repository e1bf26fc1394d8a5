-- How lines grow.
use Rattle.std.proofs.Common.{◌≡◌, subst, ℕ, List, [], ◌∷◌, ◌++◌, length, take, ap, sym, ◌∙◌, arith}
use Rattle.std.proofs.lemmas.Grind.{common_steps, flat_map-append}
use Rattle.std.proofs.lemmas.List.{append_assoc, append-nil}
use Rattle.std.specs.List.{join_with_byte}
use Rattle.journal_spec.specs.Journal.{line, line_feed, space}
use Rattle.journal_lines.specs.Written.{marked, spaced}

-- what begins with a longer text begins with its front
pub take_shorter : (a x c : List ℕ) → take (length (a ++ x)) c ≡ a ++ x → take (length a) c ≡ a
take_shorter a x c h = grind (arith, common_steps, ap (take (length a)) h)

-- the same of a text that is known to be longer
pub take_of_longer : (a b x c : List ℕ) → b ≡ a ++ x → take (length b) c ≡ b → take (length a) c ≡ a
take_of_longer a b x c e h = take_shorter a x c (subst (λ (text : List ℕ). take (length text) c ≡ text) e h)

-- texts joined by a mark: the first, and a mark before each other
pub joined_is_marked : (mark : ℕ) (text : List ℕ) (texts : List (List ℕ)) → join_with_byte mark (text ∷ texts) ≡ text ++ marked mark texts
joined_is_marked mark text [] = sym (append-nil text)
joined_is_marked mark text (next ∷ texts) = ap (λ rest. text ++ (mark ∷ rest)) (joined_is_marked mark next texts)

-- a line: its tag, a space before each field, and a line feed
pub line_is_spaced : (tag : List ℕ) (fields : List (List ℕ)) → line (tag ∷ fields) ≡ tag ++ (spaced fields ++ line_feed ∷ [])
line_is_spaced tag fields = ap (λ text. text ++ line_feed ∷ []) (joined_is_marked space tag fields) ∙ append_assoc tag (spaced fields) (line_feed ∷ [])

-- a text that grew by a tag, by three groups of fields and by a line feed grew by a line
pub line_of_groups : {v1 v2 v3 v4 v5 : List ℕ} (old tag : List ℕ) (a b c : List (List ℕ)) → v1 ≡ old ++ tag → v2 ≡ v1 ++ spaced a → v3 ≡ v2 ++ spaced b → v4 ≡ v3 ++ spaced c → v5 ≡ v4 ++ line_feed ∷ [] → v5 ≡ old ++ line (tag ∷ (a ++ b ++ c))
line_of_groups {v5 = v5} old tag a b c e1 e2 e3 e4 e5 =
    let grown : v5 ≡ old ++ tag ++ spaced a ++ spaced b ++ spaced c ++ line_feed ∷ [] = cc in
    let joined : old ++ tag ++ spaced a ++ spaced b ++ spaced c ++ line_feed ∷ [] ≡ old ++ (tag ++ (spaced (a ++ b ++ c) ++ line_feed ∷ [])) = simp (flat_map-append, append_assoc) in
    grown ∙ joined ∙ ap (λ text. old ++ text) (sym (line_is_spaced tag (a ++ b ++ c)))
