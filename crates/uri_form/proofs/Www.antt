-- Host names without `www`.
use Rattle.std.proofs.Common.{◌≡◌, ℕ, List, [], ◌∷◌, length, eqb, ◌<◌, refl, sym, ap, ⊎_elim, ◌∙◌, arith}
use Rattle.std.specs.Prelude.{if◌then◌else◌}
use Rattle.std.specs.List.{join_with_byte}
use Rattle.std.proofs.lemmas.Bool.{cases_Bool, cond-true, cond-false}
use Rattle.std.proofs.lemmas.List.Splits.{length-slice_split, join_with_byte-slice_split}
use Rattle.url.specs.Ascii.{dot}
use Rattle.uri_spec.specs.Surt.{labels}
use Rattle.uri_spec.specs.Key.{is_www, labels_without_www, name_without_www}

whole : (name : List ℕ) → join_with_byte dot (labels name) ≡ name
whole name = join_with_byte-slice_split dot name

pub name_without_www-one : (name : List ℕ) → labels name ≡ name ∷ [] → name_without_www name ≡ name
name_without_www-one name one = ap (λ ls. join_with_byte dot (labels_without_www ls)) one

pub name_without_www-two : (name first rest : List ℕ) → labels name ≡ first ∷ labels rest → labels rest ≡ rest ∷ [] → name_without_www name ≡ name
name_without_www-two name first rest cut one =
    let two = cut ∙ ap (λ ls. first ∷ ls) one in
    ap (λ ls. join_with_byte dot (labels_without_www ls)) two ∙ sym (ap (join_with_byte dot) two) ∙ whole name

many : (first second : List ℕ) (more : List (List ℕ)) → 0 < length more → labels_without_www (first ∷ second ∷ more) ≡ (if is_www first then second ∷ more else first ∷ second ∷ more)
many first second [] some = absurd (omega (arith, some))
many first second (third ∷ more) some = refl

pub name_without_www-many : (name first rest second more : List ℕ) → labels name ≡ first ∷ labels rest → labels rest ≡ second ∷ labels more → name_without_www name ≡ (if is_www first then rest else name)
name_without_www-many name first rest second more cut next =
    let three = cut ∙ ap (λ ls. first ∷ ls) next in
    let some : 0 < length (labels more) = omega (arith, length-slice_split (λ b. eqb b dot) more) in
    let short : join_with_byte dot (second ∷ labels more) ≡ rest = ap (join_with_byte dot) (sym next) ∙ whole rest in
    let long : join_with_byte dot (first ∷ second ∷ labels more) ≡ name = ap (join_with_byte dot) (sym three) ∙ whole name in
    ⊎_elim
    (λ yes. ap (λ ls. join_with_byte dot (labels_without_www ls)) three ∙ ap (join_with_byte dot) (many first second (labels more) some ∙ cond-true _ _ _ yes) ∙ short ∙ sym (cond-true _ _ _ yes))
    (λ no. ap (λ ls. join_with_byte dot (labels_without_www ls)) three ∙ ap (join_with_byte dot) (many first second (labels more) some ∙ cond-false _ _ _ no) ∙ long ∙ sym (cond-false _ _ _ no))
    (cases_Bool (is_www first))
