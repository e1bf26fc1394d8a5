-- One step of a page.
use Rattle.std.proofs.Common.{◌≡◌, ℕ, ◌<◌, List, [], ◌∷◌, ◌++◌, length, drop, refl, sym, ◌∙◌, ap, append_assoc, append-nil, arith, Option, Some, None}
use Rattle.std.specs.Prelude.{option_map}
use Rattle.std.specs.List.{cons_option, filter_map, flat_map, slice_get}
use Rattle.link_spec.specs.Cut.{Piece, pieces}
use Rattle.link_spec.specs.declared.reference.Ref.{Ref}
use Rattle.link_spec.specs.Tags.{StartTag}
use Rattle.link_spec.specs.Segments.{Segment, segment_at, start_tags, tag_in}
use Rattle.link_spec.specs.Elements.{tag_base, tag_refs}
use Rattle.link_spec.proofs.Cuts.{flat-more, pieces-none}
use Rattle.html_links.specs.Cutting.{size_at, tags_at}
use Rattle.html_links.specs.Words.{base_of, or_first, refs_of}

tags-by : (text : List ℕ) (size : ℕ) (tags : List StartTag) (o : Option (Piece Segment)) → segment_at text ≡ o → 0 < length text → 0 < size → Some size ≡ option_map (λ p. p.size) o → Some tags ≡ option_map (λ p. tag_in p.gives) o → start_tags text ≡ tags ++ start_tags (drop size text)
tags-by text size tags None e some first s t = absurd (cc s)
tags-by text size tags (Some p) e some first s t =
    let same_size : size ≡ p.size = cc s in
    let same_tags : tags ≡ tag_in p.gives = cc t in
    flat-more (λ (q : Piece Segment). tag_in q.gives) segment_at text p some (rw (← same_size) first) e
    ∙ (λ i. sym same_tags i ++ start_tags (drop (sym same_size i) text))

-- the tags of a page are those of its first segment, and those behind it
pub tags-more : (text : List ℕ) (size : ℕ) (tags : List StartTag) → 0 < length text → 0 < size → Some size ≡ size_at text → Some tags ≡ tags_at text → start_tags text ≡ tags ++ start_tags (drop size text)
tags-more text size tags some first s t = tags-by text size tags (segment_at text) refl some first s t

pub tags-end : (text : List ℕ) → length text ≡ 0 → start_tags text ≡ []
tags-end [] e = ap (flat_map (λ (q : Piece Segment). tag_in q.gives)) (pieces-none segment_at [] refl)
tags-end (b ∷ rest) e = absurd (omega arith)

refs-append : (xs ys : List StartTag) → refs_of (xs ++ ys) ≡ refs_of xs ++ refs_of ys
refs-append [] ys = refl
refs-append (x ∷ xs) ys = ap (λ rs. tag_refs x ++ rs) (refs-append xs ys) ∙ sym (append_assoc (tag_refs x) (refs_of xs) (refs_of ys))

pub refs-more : (refs all : List Ref) (tags later both : List StartTag) → both ≡ tags ++ later → refs ++ refs_of both ≡ all → (refs ++ refs_of tags) ++ refs_of later ≡ all
refs-more refs all tags later both e h =
    append_assoc refs (refs_of tags) (refs_of later)
    ∙ ap (λ rs. refs ++ rs) (sym (ap refs_of e ∙ refs-append tags later))
    ∙ h

first-by : (o : Option (List ℕ)) (xs ys : List StartTag) → base_of (xs ++ ys) ≡ or_first (base_of xs) (base_of ys) → slice_get (cons_option o (filter_map tag_base (xs ++ ys))) 0 ≡ or_first (slice_get (cons_option o (filter_map tag_base xs)) 0) (base_of ys)
first-by None xs ys h = h
first-by (Some b) xs ys h = refl

base-append : (xs ys : List StartTag) → base_of (xs ++ ys) ≡ or_first (base_of xs) (base_of ys)
base-append [] ys = refl
base-append (x ∷ xs) ys = first-by (tag_base x) xs ys (base-append xs ys)

or-assoc : (a b c : Option (List ℕ)) → or_first (or_first a b) c ≡ or_first a (or_first b c)
or-assoc None b c = refl
or-assoc (Some x) b c = refl

pub base-more : (base all : Option (List ℕ)) (tags later both : List StartTag) → both ≡ tags ++ later → or_first base (base_of both) ≡ all → or_first (or_first base (base_of tags)) (base_of later) ≡ all
base-more base all tags later both e h =
    or-assoc base (base_of tags) (base_of later)
    ∙ ap (or_first base) (sym (ap base_of e ∙ base-append tags later))
    ∙ h

pub or-none : (a : Option (List ℕ)) → or_first a None ≡ a
or-none None = refl
or-none (Some x) = refl

-- at the end
pub refs-end : (refs all : List Ref) (text : List ℕ) → length text ≡ 0 → refs ++ refs_of (start_tags text) ≡ all → refs ≡ all
refs-end refs all text e h = sym (ap (λ tags. refs ++ refs_of tags) (tags-end text e) ∙ append-nil refs) ∙ h

pub base-end : (base all : Option (List ℕ)) (text : List ℕ) → length text ≡ 0 → or_first base (base_of (start_tags text)) ≡ all → base ≡ all
base-end base all text e h = sym (ap (λ tags. or_first base (base_of tags)) (tags-end text e) ∙ or-none base) ∙ h
