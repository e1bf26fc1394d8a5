-- What rules decide, as they grow at their end.
use Rattle.std.proofs.Common.{◌≡◌, ◌∙◌, ℕ, ◌+◌, ◌-◌, ◌≤◌, List, [], ◌∷◌, ◌++◌, append-nil, Option, Some, None, map, take, drop, length, length-append, length-take-le, refl, sym, ap, unwrap_or, arith}
use borrow.Rule.Slice.PartMut.{put_mid}
use Rattle.std.specs.List.{filter_map, last_or}
use Rattle.std.proofs.lemmas.List.{map_push, take-append-drop, take_at, drop_at, take-take, drop-take}
use Rattle.std.proofs.lemmas.List.Concat.{flat_map-append}
use Rattle.scope_spec.specs.declared.rule.Decision.{Decision}
use Rattle.scope_spec.specs.declared.rule.Decision.TheVariants.{Reject}
use Rattle.scope_spec.specs.declared.rule.Rule.{Rule}
use Rattle.scope_spec.specs.Answer.{answer_of}
use Rattle.scope_spec.specs.Decision.{decision, last_answer, patterns_of, rule_patterns}

last-some : {X : Type 0} (o : Option X) (given : List (Option X)) (x : X) → last_or o (filter_map (λ answer. answer) (given ++ Some x ∷ [])) ≡ Some x
last-some o [] x = refl
last-some o (None ∷ given) x = last-some o given x
last-some o (Some y ∷ given) x = last-some (Some y) given x

last-none : {X : Type 0} (o : Option X) (given : List (Option X)) → last_or o (filter_map (λ answer. answer) (given ++ None ∷ [])) ≡ last_or o (filter_map (λ answer. answer) given)
last-none o [] = refl
last-none o (None ∷ given) = last-none o given
last-none o (Some y ∷ given) = last-none (Some y) given

-- the last rule decides where it answers
pub decision-some : (rules earlier : List Rule) (rule : Rule) (seeds : List (List ℕ)) (uri surt path : List ℕ) (d : Decision) → rules ≡ earlier ++ rule ∷ [] → Some d ≡ answer_of seeds uri surt path rule
    → decision rules seeds uri surt path ≡ d
decision-some rules earlier rule seeds uri surt path d whole answers =
    let given = map (answer_of seeds uri surt path) in
    let end : given rules ≡ given earlier ++ Some d ∷ [] = ap given whole ∙ map_push (answer_of seeds uri surt path) earlier rule ∙ ap (λ o. given earlier ++ o ∷ []) (sym answers) in
    ap (λ all. unwrap_or (last_answer all) Reject) end ∙ ap (λ o. unwrap_or o Reject) (last-some None (given earlier) d)

-- and else the rules before it
pub decision-none : (rules earlier : List Rule) (rule : Rule) (seeds : List (List ℕ)) (uri surt path : List ℕ) → rules ≡ earlier ++ rule ∷ [] → None ≡ answer_of seeds uri surt path rule
    → decision rules seeds uri surt path ≡ decision earlier seeds uri surt path
decision-none rules earlier rule seeds uri surt path whole answers =
    let given = map (answer_of seeds uri surt path) in
    let end : given rules ≡ given earlier ++ None ∷ [] = ap given whole ∙ map_push (answer_of seeds uri surt path) earlier rule ∙ ap (λ o. given earlier ++ o ∷ []) (sym answers) in
    ap (λ all. unwrap_or (last_answer all) Reject) end ∙ ap (λ o. unwrap_or o Reject) (last-none None (given earlier))

-- the patterns of the last rule stand behind those of the rules before it
pub patterns-end : (rules earlier : List Rule) (rule : Rule) → rules ≡ earlier ++ rule ∷ [] → patterns_of rules ≡ patterns_of earlier ++ rule_patterns rule
patterns-end rules earlier rule whole =
    ap patterns_of whole ∙ flat_map-append rule_patterns earlier (rule ∷ []) ∙ ap (λ end. patterns_of earlier ++ end) (append-nil (rule_patterns rule))

-- the end of a front, by its length
pub end-fits : {X : Type 0} (xs a b : List X) (e : ℕ) → e ≤ length xs → take e xs ≡ a ++ b → length a + length b ≡ e
end-fits xs a b e h own = sym (length-append a b) ∙ ap length (sym own) ∙ length-take-le e xs h

pub front-of : {X : Type 0} (xs a b : List X) (e : ℕ) → e ≤ length xs → take e xs ≡ a ++ b → take (e - length b) xs ≡ a
front-of xs a b e h own =
    let fits = end-fits xs a b e h own in
    sym (take-take (e - length b) e xs (omega arith)) ∙ ap (take (e - length b)) own ∙ take_at a b (e - length b) (omega arith)

pub back-of : {X : Type 0} (xs a b : List X) (e : ℕ) → e ≤ length xs → take e xs ≡ a ++ b → take (e - (e - length b)) (drop (e - length b) xs) ≡ b
back-of xs a b e h own =
    let fits = end-fits xs a b e h own in
    let n = e - length b in
    let whole : n + (e - n) ≡ e = omega arith in
    sym (drop-take n (e - n) xs) ∙ ap (λ m. drop n (take m xs)) whole ∙ ap (drop n) own ∙ drop_at a b n (omega arith)

-- a part that is put back as it was changes nothing
pub put_back : {X : Type 0} (xs ys : List X) (a k : ℕ) → ys ≡ take k (drop a xs) → put_mid a k xs ys ≡ xs
put_back xs ys a k same =
    ap (put_mid a k xs) same ∙ ap (λ rest. take a xs ++ rest) (take-append-drop k (drop a xs)) ∙ take-append-drop a xs
