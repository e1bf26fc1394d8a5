-- How the list of links grows.
use Rattle.std.proofs.Common.{◌≡◌, ℕ, zero, suc, ◌<◌, ◌≤◌, List, [], ◌∷◌, ◌++◌, length, take, refl, sym, ap, ◌∙◌, arith, append_assoc, append-nil, length-append, Some, None}
use Rattle.std.specs.List.{cons_option, filter_map}
use Rattle.std.proofs.lemmas.List.{take-append-le, take_all, length-take}
use Rattle.std.proofs.lemmas.List.Elements.{filter_map-append}
use Rattle.link_spec.specs.declared.reference.Ref.{Ref}
use Rattle.extract_spec.specs.declared.found.Found.{Found}
use Rattle.extract_spec.specs.Joining.{linked}
use Rattle.extract_spec.specs.Links.{most_links}
use Rattle.link_extract.specs.Growing.{with_refs}

take-again : {A : Type 0} (n : ℕ) (xs ys : List A) → take n (take n xs ++ ys) ≡ take n (xs ++ ys)
take-again zero xs ys = refl
take-again (suc n) [] ys = refl
take-again (suc n) (x ∷ xs) ys = ap (λ l. x ∷ l) (take-again n xs ys)

-- there are no more than fit
pub with_few : (links : List Found) (base : List ℕ) (refs : List Ref) (now : List Found) → now ≡ with_refs links base refs → length now ≤ most_links
with_few links base refs now e = omega (arith, ap length e, length-take most_links (links ++ filter_map (linked base) refs))

-- no reference
pub with_none : (links : List Found) (base : List ℕ) → length links ≤ most_links → links ≡ with_refs links base []
with_none links base few = sym (ap (take most_links) (append-nil links) ∙ take_all most_links links few)

-- one reference that makes a link, and one that makes none
pub with_found : (links : List Found) (base : List ℕ) (ref : Ref) (found : Found) → linked base ref ≡ Some found → length links < most_links → links ++ found ∷ [] ≡ with_refs links base (ref ∷ [])
with_found links base ref found e room =
    sym (take_all most_links (links ++ found ∷ []) (omega (arith, length-append links (found ∷ []))))
    ∙ ap (λ o. take most_links (links ++ cons_option o [])) (sym e)

pub with_no : (links : List Found) (base : List ℕ) (ref : Ref) → linked base ref ≡ None → length links < most_links → links ≡ with_refs links base (ref ∷ [])
with_no links base ref e room =
    with_none links base (omega arith)
    ∙ ap (λ o. take most_links (links ++ cons_option o [])) (sym e)

-- references, and then more
with_more : (links : List Found) (base : List ℕ) (refs more : List Ref) → with_refs (with_refs links base refs) base more ≡ with_refs links base (refs ++ more)
with_more links base refs more =
    take-again most_links (links ++ filter_map (linked base) refs) (filter_map (linked base) more)
    ∙ ap (take most_links) (append_assoc links (filter_map (linked base) refs) (filter_map (linked base) more) ∙ ap (λ l. links ++ l) (sym (filter_map-append (linked base) refs more)))

pub with_step : (links now next : List Found) (base : List ℕ) (front more all : List Ref) → now ≡ with_refs links base front → next ≡ with_refs now base more → all ≡ front ++ more → next ≡ with_refs links base all
with_step links now next base front more all e step cut =
    step ∙ ap (λ l. with_refs l base more) e ∙ with_more links base front more ∙ ap (with_refs links base) (sym cut)

-- there is no room for what is left
pub with_rest : (links now : List Found) (base : List ℕ) (front rest all : List Ref) → now ≡ with_refs links base front → most_links ≤ length now → all ≡ front ++ rest → now ≡ with_refs links base all
with_rest links now base front rest all e full cut =
    let few = with_few links base front now e in
    let same : now ≡ with_refs now base rest =
    sym (take-append-le most_links now (filter_map (linked base) rest) full ∙ take_all most_links now few) in
    with_step links now now base front rest all e same cut
