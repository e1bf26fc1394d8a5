-- One step of a tag's references.
use Rattle.std.proofs.Common.{◌≡◌, ℕ, ◌+◌, ◌<◌, ◌≤◌, List, [], ◌∷◌, ◌++◌, length, take, drop, map, get_or, refl, sym, ◌∙◌, ap, subst, append_assoc, append-nil, arith}
use Rattle.std.proofs.lemmas.List.{at_drop_more, at_drop_all, map-append}
use Rattle.std.specs.List.{position_or_len}
use Rattle.link_spec.specs.Cut.{Piece}
use Rattle.link_spec.specs.Words.{reference}
use Rattle.link_spec.specs.Values.{candidate_at, candidates, embedded, first_word, is_comma}
use Rattle.link_spec.proofs.Cuts.{given-more, given-end}
use Rattle.link_spec.specs.declared.page.Attribute.{Attribute}
use Rattle.link_spec.specs.declared.page.Element.{Element}
use Rattle.link_spec.specs.declared.reference.Ref.{Ref}
use Rattle.link_spec.specs.Elements.{attribute_refs, refs_by, role_of}

-- the references of one attribute more
pub refs-next : (e : Element) (all xs : List Attribute) (i : ℕ) (x : Attribute) (refs whole more : List Ref) → i < length xs → x ≡ get_or xs i x → more ≡ refs_by (role_of e x.name) all x.value → refs ++ attribute_refs e all (drop i xs) ≡ whole → (refs ++ more) ++ attribute_refs e all (drop (i + 1) xs) ≡ whole
refs-next e all xs i x refs whole more h is m w =
    let one : Attribute → List Ref = λ a. refs_by (role_of e a.name) all a.value in
    append_assoc refs more (attribute_refs e all (drop (i + 1) xs))
    ∙ ap (λ rs. refs ++ (rs ++ attribute_refs e all (drop (i + 1) xs))) (m ∙ ap one is)
    ∙ ap (λ rs. refs ++ rs) (sym (at_drop_more (attribute_refs e all) xs i x h))
    ∙ w

pub refs-all : (e : Element) (all xs : List Attribute) (i : ℕ) (refs whole : List Ref) → length xs ≤ i → refs ++ attribute_refs e all (drop i xs) ≡ whole → refs ≡ whole
refs-all e all xs i refs whole h w = sym (ap (λ rs. refs ++ rs) (at_drop_all (attribute_refs e all) xs i h) ∙ append-nil refs) ∙ w

abbrev embed : List (List ℕ) → List Ref
embed words = map (reference embedded) words

-- the images of one part more
pub candidates-more : (refs all : List Ref) (rest : List ℕ) (n : ℕ) → 0 < length rest → n ≡ position_or_len is_comma rest → refs ++ map (reference embedded) (candidates rest) ≡ all → (refs ++ map (reference embedded) (first_word (take n rest))) ++ map (reference embedded) (candidates (drop (n + 1) rest)) ≡ all
candidates-more refs all rest n some e w =
    let P : ℕ → Type 0 = λ m. (refs ++ embed (first_word (take m rest))) ++ embed (candidates (drop (m + 1) rest)) ≡ all in
    let place = position_or_len is_comma rest in
    let p : Piece (List (List ℕ)) = record { size = place + 1; gives = first_word (take place rest) } in
    let step : candidates rest ≡ first_word (take place rest) ++ candidates (drop (place + 1) rest) = given-more candidate_at rest p some (omega arith) refl in
    subst P (sym e)
    (append_assoc refs (embed (first_word (take place rest))) (embed (candidates (drop (place + 1) rest)))
    ∙ ap (λ rs. refs ++ rs) (sym (ap embed step ∙ map-append (reference embedded) (first_word (take place rest)) (candidates (drop (place + 1) rest))))
    ∙ w)

pub candidates-end : (refs all : List Ref) (rest : List ℕ) → length rest ≡ 0 → refs ++ map (reference embedded) (candidates rest) ≡ all → refs ≡ all
candidates-end refs all [] e w = sym (ap (λ rs. refs ++ embed rs) (given-end candidate_at) ∙ append-nil refs) ∙ w
candidates-end refs all (b ∷ rest) e w = absurd (omega arith)
