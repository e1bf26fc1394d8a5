-- The values of a name, over one field more.
use Rattle.std.proofs.Common.{◌≡◌, ℕ, ◌+◌, ◌<◌, true, false, List, [], ◌∷◌, ◌++◌, length, get_or, take, map, filter, refl, ap, ◌∙◌}
use Rattle.std.proofs.lemmas.List.{map-append, take_more}
use Rattle.std.proofs.lemmas.List.Elements.{filter-append}
use Rattle.httparse.specs.declared.spans.HeaderSpan.{HeaderSpan}
use Rattle.httparse.specs.Spans.{header_bytes}
use Rattle.page_spec.specs.Fields.{Pair, is_named, values_of}

values_of-append : (name : List ℕ) (fs gs : List Pair) → values_of name (fs ++ gs) ≡ values_of name fs ++ values_of name gs
values_of-append name fs gs =
    let second : Pair → List ℕ = λ field. field.1 in
    ap (map second) (filter-append (is_named name) fs gs) ∙ map-append second (filter (is_named name) fs) (filter (is_named name) gs)

pub values_more : (name bytes : List ℕ) (spans : List HeaderSpan) (i : ℕ) (d : HeaderSpan) → i < length spans
    → values_of name (map (header_bytes bytes) (take (i + 1) spans))
    ≡ values_of name (map (header_bytes bytes) (take i spans)) ++ values_of name (header_bytes bytes (get_or spans i d) ∷ [])
values_more name bytes spans i d lt =
    ap (λ xs. values_of name (map (header_bytes bytes) xs)) (take_more spans i d lt)
    ∙ ap (values_of name) (map-append (header_bytes bytes) (take i spans) (get_or spans i d ∷ []))
    ∙ values_of-append name (map (header_bytes bytes) (take i spans)) (header_bytes bytes (get_or spans i d) ∷ [])

pub values_yes : (name : List ℕ) (p : Pair) → is_named name p ≡ true → values_of name (p ∷ []) ≡ p.1 ∷ []
values_yes name p here = rw here refl

pub values_no : (name : List ℕ) (p : Pair) → is_named name p ≡ false → values_of name (p ∷ []) ≡ []
values_no name p other = rw other refl
