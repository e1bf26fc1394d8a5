-- One step of a tag's attributes.
use Rattle.std.proofs.Common.{◌≡◌, ℕ, ◌+◌, ◌<◌, Bool, true, false, not, ◌||◌, cond, ◌==◌, List, [], ◌∷◌, length, drop, fold, refl, sym, ◌∙◌, ap, subst, arith, sum_by, Option, Some, None}
use Rattle.std.specs.List.{prefix_len, flat_map}
use Rattle.std.proofs.lemmas.Bool.{eqb-true}
use Rattle.std.proofs.lemmas.List.Sums.{fold-append}
use Rattle.link_spec.specs.Cut.{Piece, front, given, pieces}
use Rattle.link_spec.specs.Words.{is_blank}
use Rattle.link_spec.specs.Attributes.{attribute, attribute_at, attributes_size, is_name_byte, with_one}
use Rattle.link_spec.specs.declared.page.Attribute.{Attribute}
use Rattle.link_spec.proofs.Cuts.{given-more, size-more, pieces-none}
use Rattle.html_links.specs.Reading.{begins_gap, goes_on}

test-not : (t : Bool) → not t ≡ true → t ≡ false
test-not true e = absurd (cc e)
test-not false e = refl

-- what stands at the front of what a tag has left
at-gap : (rest : List ℕ) → goes_on rest ≡ true → begins_gap rest ≡ true → attribute_at rest ≡ Some (record { size = 1; gives = [] })
unfolding attribute_at
at-gap [] g h = absurd (cc g)
at-gap (b ∷ rest) g h = rw (test-not (b == 62) g, h) refl

at-pair : (rest : List ℕ) → goes_on rest ≡ true → begins_gap rest ≡ false → attribute_at rest ≡ Some (attribute rest)
unfolding attribute_at
at-pair [] g h = absurd (cc g)
at-pair (b ∷ rest) g h = rw (test-not (b == 62) g, h) refl

end-by : (t : Bool) (x : Option (Piece (List Attribute))) → not t ≡ false → cond t None x ≡ None
end-by true x e = refl
end-by false x e = absurd (cc e)

at-end : (rest : List ℕ) → goes_on rest ≡ false → front attribute_at rest ≡ None
unfolding attribute_at
at-end [] g = refl
at-end (b ∷ rest) g = end-by (b == 62) _ g

-- ---- an attribute takes a byte at least

by_equals : (b : ℕ) (rest : List ℕ) → b ≡ 61 → 0 < (attribute (b ∷ rest)).size
by_equals b rest e =
    let P : ℕ → Type 0 = λ c. 0 < (attribute (c ∷ rest)).size in
    let here : 0 < (attribute (61 ∷ rest)).size = omega arith in
    subst P (sym e) here

by_name : (b : ℕ) (rest : List ℕ) → is_name_byte b ≡ true → 0 < (attribute (b ∷ rest)).size
by_name b rest e =
    let n : prefix_len is_name_byte (b ∷ rest) ≡ 1 + prefix_len is_name_byte rest = ap (λ t. cond t (1 + prefix_len is_name_byte rest) 0) e in
    omega (arith, n)

name-by : (blank slash close equals : Bool) → blank || slash ≡ false → close ≡ false → equals ≡ false → not (blank || slash || close || equals) ≡ true
name-by true slash close equals h c e = absurd (cc h)
name-by false true close equals h c e = absurd (cc h)
name-by false false true equals h c e = absurd (cc c)
name-by false false false true h c e = absurd (cc e)
name-by false false false false h c e = refl

some-by : (b : ℕ) (rest : List ℕ) (t : Bool) → (b == 61) ≡ t → goes_on (b ∷ rest) ≡ true → begins_gap (b ∷ rest) ≡ false → 0 < (attribute (b ∷ rest)).size
some-by b rest true e g h = by_equals b rest (eqb-true b 61 e)
some-by b rest false e g h = by_name b rest (name-by (is_blank b) (b == 47) (b == 62) (b == 61) h (test-not (b == 62) g) e)

pub pair-some : (rest : List ℕ) → goes_on rest ≡ true → begins_gap rest ≡ false → 0 < (attribute rest).size
pair-some [] g h = absurd (cc g)
pair-some (b ∷ rest) g h = some-by b rest (b == 61) refl g h

pub goes_on-some : (rest : List ℕ) → goes_on rest ≡ true → 0 < length rest
goes_on-some [] g = absurd (cc g)
goes_on-some (b ∷ rest) g = omega arith

-- ---- one step more

abbrev so_far : List Attribute → List ℕ → List Attribute
so_far kept rest = fold with_one kept (given attribute_at rest)

pub list-gap : (kept all : List Attribute) (rest : List ℕ) → goes_on rest ≡ true → begins_gap rest ≡ true → so_far kept rest ≡ all → so_far kept (drop 1 rest) ≡ all
list-gap kept all rest g h e =
    sym (ap (fold with_one kept) (given-more attribute_at rest _ (goes_on-some rest g) (omega arith) (at-gap rest g h))) ∙ e

pub list-pair : (kept all : List Attribute) (rest : List ℕ) → goes_on rest ≡ true → begins_gap rest ≡ false → so_far kept rest ≡ all → so_far (fold with_one kept (attribute rest).gives) (drop (attribute rest).size rest) ≡ all
list-pair kept all rest g h e =
    sym (fold-append with_one kept (attribute rest).gives (given attribute_at (drop (attribute rest).size rest)))
    ∙ sym (ap (fold with_one kept) (given-more attribute_at rest (attribute rest) (goes_on-some rest g) (pair-some rest g h) (at-pair rest g h)))
    ∙ e

pub list-end : (kept all : List Attribute) (rest : List ℕ) → goes_on rest ≡ false → so_far kept rest ≡ all → kept ≡ all
list-end kept all rest g e =
    sym (ap (λ (ps : List (Piece (List Attribute))). fold with_one kept (flat_map (λ q. q.gives) ps)) (pieces-none attribute_at rest (at-end rest g))) ∙ e

pub size-gap : (rest : List ℕ) → goes_on rest ≡ true → begins_gap rest ≡ true → attributes_size rest ≡ 1 + attributes_size (drop 1 rest)
size-gap rest g h = size-more attribute_at rest _ (goes_on-some rest g) (omega arith) (at-gap rest g h)

pub size-pair : (rest : List ℕ) → goes_on rest ≡ true → begins_gap rest ≡ false → attributes_size rest ≡ (attribute rest).size + attributes_size (drop (attribute rest).size rest)
size-pair rest g h = size-more attribute_at rest (attribute rest) (goes_on-some rest g) (pair-some rest g h) (at-pair rest g h)

pub size-end : (rest : List ℕ) → goes_on rest ≡ false → attributes_size rest ≡ 0
size-end rest g = ap (λ (ps : List (Piece (List Attribute))). sum_by (λ q. q.size) ps) (pieces-none attribute_at rest (at-end rest g))
