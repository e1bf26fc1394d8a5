-- The lines of events are those of no other events.
use Rattle.std.proofs.Common.{◌≡◌, ℕ, Bool, true, false, List, [], ◌∷◌, ◌++◌, map, refl, sym, subst, ◌∙◌, append_assoc}
use Rattle.std.specs.Prelude.{flat_map}
use Rattle.std.proofs.lemmas.Bool.{false≢true}
use Rattle.crawl_kinds.specs.declared.item.Item.{Item}
use Rattle.crawl_kinds.specs.declared.event.Event.{Event}
use Rattle.crawl_kinds.specs.declared.event.Event.TheVariants.{Session as SessionEvent, Seeds as SeedsEvent, Emit as EmitEvent, Finish as FinishEvent}
use Rattle.journal_read.specs.declared.line.Line.{Line}
use Rattle.journal_read.specs.declared.line.Line.TheVariants.{Session, Seeds, Seed, Add, Emit, Finish}
use Rattle.journal_read.specs.Lines.{lines_of}

-- a line that begins an event
abbrev is_first : Line → Bool
is_first (Session time job format) = true
is_first (Seeds time) = true
is_first (Seed uri) = false
is_first (Add item) = false
is_first (Emit time caller ticket verdict item) = true
is_first (Finish time caller ticket item end) = true

-- no line, or one that begins an event
abbrev Begins : List Line → Type 0
Begins [] = Unit {0}
Begins (l ∷ ls) = is_first l ≡ true

begins : (events : List Event) → Begins (flat_map lines_of events)
begins [] = tt
begins (SessionEvent time job format ∷ es) = refl
begins (SeedsEvent time list adds ∷ es) = refl
begins (EmitEvent time caller ticket verdict item ∷ es) = refl
begins (FinishEvent time caller ticket item end adds ∷ es) = refl

adds_same : (xs ys : List Item) (r s : List Line) → Begins r → Begins s → map Add xs ++ r ≡ map Add ys ++ s → (xs ≡ ys) × (r ≡ s)
adds_same [] [] r s br bs e = (refl, e)
adds_same [] (y ∷ ys) r s br bs e = absurd (false≢true (subst Begins e br))
adds_same (x ∷ xs) [] r s br bs e = absurd (false≢true (subst Begins (sym e) bs))
adds_same (x ∷ xs) (y ∷ ys) r s br bs e =
    let rest : map Add xs ++ r ≡ map Add ys ++ s = cc in
    let both = adds_same xs ys r s br bs rest in
    let first : x ≡ y = cc in
    (cc, both.1)

no_seed : (xs : List Item) (r : List Line) (uri : List ℕ) (more : List Line) → Begins r → map Add xs ++ r ≡ Seed uri ∷ more → ⊥
no_seed [] r uri more br e = false≢true (subst Begins e br)
no_seed (x ∷ xs) r uri more br e = cc

seeds_same : (us vs : List (List ℕ)) (xs ys : List Item) (r s : List Line) → Begins r → Begins s → map Seed us ++ (map Add xs ++ r) ≡ map Seed vs ++ (map Add ys ++ s) → (us ≡ vs) × (xs ≡ ys) × (r ≡ s)
seeds_same [] [] xs ys r s br bs e = let both = adds_same xs ys r s br bs e in (refl, both.0, both.1)
seeds_same [] (v ∷ vs) xs ys r s br bs e = absurd (no_seed xs r v (map Seed vs ++ (map Add ys ++ s)) br e)
seeds_same (u ∷ us) [] xs ys r s br bs e = absurd (no_seed ys s u (map Seed us ++ (map Add xs ++ r)) bs (sym e))
seeds_same (u ∷ us) (v ∷ vs) xs ys r s br bs e =
    let rest : map Seed us ++ (map Add xs ++ r) ≡ map Seed vs ++ (map Add ys ++ s) = cc in
    let all = seeds_same us vs xs ys r s br bs rest in
    let first : u ≡ v = cc in
    (cc, all.1, all.2)

pub events_same : (es fs : List Event) → flat_map lines_of es ≡ flat_map lines_of fs → es ≡ fs
events_same [] [] e = refl
events_same [] (SessionEvent time job format ∷ fs) e = absurd (cc)
events_same [] (SeedsEvent time list adds ∷ fs) e = absurd (cc)
events_same [] (EmitEvent time caller ticket verdict item ∷ fs) e = absurd (cc)
events_same [] (FinishEvent time caller ticket item end adds ∷ fs) e = absurd (cc)
events_same (SessionEvent time job format ∷ es) [] e = absurd (cc)
events_same (SeedsEvent time list adds ∷ es) [] e = absurd (cc)
events_same (EmitEvent time caller ticket verdict item ∷ es) [] e = absurd (cc)
events_same (FinishEvent time caller ticket item end adds ∷ es) [] e = absurd (cc)
events_same (SessionEvent time job format ∷ es) (SessionEvent time' job' format' ∷ fs) e = let rest : flat_map lines_of es ≡ flat_map lines_of fs = cc in let more = events_same es fs rest in cc
events_same (SessionEvent time job format ∷ es) (SeedsEvent time' list' adds' ∷ fs) e = absurd (cc)
events_same (SessionEvent time job format ∷ es) (EmitEvent time' caller' ticket' verdict' item' ∷ fs) e = absurd (cc)
events_same (SessionEvent time job format ∷ es) (FinishEvent time' caller' ticket' item' end' adds' ∷ fs) e = absurd (cc)
events_same (SeedsEvent time list adds ∷ es) (SessionEvent time' job' format' ∷ fs) e = absurd (cc)
events_same (SeedsEvent time list adds ∷ es) (SeedsEvent time' list' adds' ∷ fs) e =
    let tail : (map Seed list ++ map Add adds) ++ flat_map lines_of es ≡ (map Seed list' ++ map Add adds') ++ flat_map lines_of fs = cc in
    let regrouped = sym (append_assoc (map Seed list) (map Add adds) (flat_map lines_of es)) ∙ (tail ∙ append_assoc (map Seed list') (map Add adds') (flat_map lines_of fs)) in
    let all = seeds_same list list' adds adds' (flat_map lines_of es) (flat_map lines_of fs) (begins es) (begins fs) regrouped in
    let more = events_same es fs all.2 in
    cc
events_same (SeedsEvent time list adds ∷ es) (EmitEvent time' caller' ticket' verdict' item' ∷ fs) e = absurd (cc)
events_same (SeedsEvent time list adds ∷ es) (FinishEvent time' caller' ticket' item' end' adds' ∷ fs) e = absurd (cc)
events_same (EmitEvent time caller ticket verdict item ∷ es) (SessionEvent time' job' format' ∷ fs) e = absurd (cc)
events_same (EmitEvent time caller ticket verdict item ∷ es) (SeedsEvent time' list' adds' ∷ fs) e = absurd (cc)
events_same (EmitEvent time caller ticket verdict item ∷ es) (EmitEvent time' caller' ticket' verdict' item' ∷ fs) e = let rest : flat_map lines_of es ≡ flat_map lines_of fs = cc in let more = events_same es fs rest in cc
events_same (EmitEvent time caller ticket verdict item ∷ es) (FinishEvent time' caller' ticket' item' end' adds' ∷ fs) e = absurd (cc)
events_same (FinishEvent time caller ticket item end adds ∷ es) (SessionEvent time' job' format' ∷ fs) e = absurd (cc)
events_same (FinishEvent time caller ticket item end adds ∷ es) (SeedsEvent time' list' adds' ∷ fs) e = absurd (cc)
events_same (FinishEvent time caller ticket item end adds ∷ es) (EmitEvent time' caller' ticket' verdict' item' ∷ fs) e = absurd (cc)
events_same (FinishEvent time caller ticket item end adds ∷ es) (FinishEvent time' caller' ticket' item' end' adds' ∷ fs) e =
    let tail : map Add adds ++ flat_map lines_of es ≡ map Add adds' ++ flat_map lines_of fs = cc in
    let both = adds_same adds adds' (flat_map lines_of es) (flat_map lines_of fs) (begins es) (begins fs) tail in
    let more = events_same es fs both.1 in
    cc
