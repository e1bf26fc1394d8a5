-- Which line may follow which: the lines of events are those of which each may follow the one before it.
use Rattle.std.proofs.Common.{◌≡◌, ◌≢◌, ℕ, zero, suc, ◌+◌, Bool, true, false, List, [], ◌∷◌, ◌++◌, length, get_or, set, map, Option, Some, None, Result, Ok, Err, refl, sym, ap, subst, ◌∙◌, arith, append_assoc, append-nil}
use Rattle.std.specs.Prelude.{flat_map}
use Rattle.std.proofs.lemmas.Bool.{false≢true}
use Rattle.crawl_kinds.specs.declared.item.Item.{Item}
use Rattle.crawl_kinds.specs.declared.event.Event.{Event}
use Rattle.crawl_kinds.specs.declared.event.Event.TheVariants.{Session as SessionEvent, Seeds as SeedsEvent, Emit as EmitEvent, Finish as FinishEvent}
use Rattle.journal_read.specs.declared.fault.Misread.{Misread}
use Rattle.journal_read.specs.declared.fault.Misread.TheVariants.{Bad, NoMemory}
use Rattle.journal_read.specs.declared.line.Line.{Line}
use Rattle.journal_read.specs.declared.line.Line.TheVariants.{Session, Seeds, Seed, Add, Emit, Finish}
use Rattle.journal_read.specs.Lines.{lines_of}
use Rattle.journal_read.specs.Joining.{Grows, Joins, may_add, may_seed}

-- a seed follows the first line of seeds, or a seed
abbrev pub takes_seed : Option Line → Bool
takes_seed None = false
takes_seed (Some (Session time job format)) = false
takes_seed (Some (Seeds time)) = true
takes_seed (Some (Seed uri)) = true
takes_seed (Some (Add item)) = false
takes_seed (Some (Emit time caller ticket verdict item)) = false
takes_seed (Some (Finish time caller ticket item end)) = false

-- an item that is added follows any line but a session's and an emission's
abbrev pub takes_add : Option Line → Bool
takes_add None = false
takes_add (Some (Session time job format)) = false
takes_add (Some (Seeds time)) = true
takes_add (Some (Seed uri)) = true
takes_add (Some (Add item)) = true
takes_add (Some (Emit time caller ticket verdict item)) = false
takes_add (Some (Finish time caller ticket item end)) = true

abbrev pub follows : Option Line → Line → Bool
follows p (Session time job format) = true
follows p (Seeds time) = true
follows p (Seed uri) = takes_seed p
follows p (Add item) = takes_add p
follows p (Emit time caller ticket verdict item) = true
follows p (Finish time caller ticket item end) = true

-- each line follows the one before it, the first the one that is given
abbrev pub Chain : Option Line → List Line → Type 0
Chain p [] = Unit {0}
Chain p (l ∷ ls) = (follows p l ≡ true) × Chain (Some l) ls

-- the last line
abbrev pub ends : Option Line → List Line → Option Line
ends p [] = p
ends p (l ∷ ls) = ends (Some l) ls

chain_adds : (p : Option Line) (xs : List Item) (rest : List Line) → takes_add p ≡ true → ((q : Option Line) → Chain q rest) → Chain p (map Add xs ++ rest)
chain_adds p [] rest t k = k p
chain_adds p (x ∷ xs) rest t k = (t, chain_adds (Some (Add x)) xs rest refl k)

chain_seeds : (p : Option Line) (us : List (List ℕ)) (xs : List Item) (rest : List Line) → takes_seed p ≡ true → takes_add p ≡ true → ((q : Option Line) → Chain q rest) → Chain p ((map Seed us ++ map Add xs) ++ rest)
chain_seeds p [] xs rest s a k = chain_adds p xs rest a k
chain_seeds p (u ∷ us) xs rest s a k = (s, chain_seeds (Some (Seed u)) us xs rest refl refl k)

pub chain_events : (p : Option Line) (es : List Event) → Chain p (flat_map lines_of es)
chain_events p [] = tt
chain_events p (SessionEvent time job format ∷ es) = (refl, chain_events (Some (Session time job format)) es)
chain_events p (SeedsEvent time list adds ∷ es) = (refl, chain_seeds (Some (Seeds time)) list adds (flat_map lines_of es) refl refl (λ q. chain_events q es))
chain_events p (EmitEvent time caller ticket verdict item ∷ es) = (refl, chain_events (Some (Emit time caller ticket verdict item)) es)
chain_events p (FinishEvent time caller ticket item end adds ∷ es) = (refl, chain_adds (Some (Finish time caller ticket item end)) adds (flat_map lines_of es) refl (λ q. chain_events q es))

pub chain_end : (p : Option Line) (ls : List Line) (m : Line) → Chain p (ls ++ m ∷ []) → follows (ends p ls) m ≡ true
chain_end p [] m h = h.0
chain_end p (l ∷ ls) m h = chain_end (Some l) ls m h.1

ends_append : (p : Option Line) (ls ms : List Line) → ends p (ls ++ ms) ≡ ends (ends p ls) ms
ends_append p [] ms = refl
ends_append p (l ∷ ls) ms = ends_append (Some l) ls ms

seed_behind : (p : Option Line) (xs : List Item) → takes_seed p ≡ false → takes_seed (ends p (map Add xs)) ≡ false
seed_behind p [] t = t
seed_behind p (x ∷ xs) t = seed_behind (Some (Add x)) xs refl

no_more_seeds : (p : Option Line) (e : Event) → may_seed e ≡ false → takes_seed (ends p (lines_of e)) ≡ false
no_more_seeds p (SessionEvent time job format) f = refl
no_more_seeds p (SeedsEvent time list []) f = absurd (false≢true (sym f))
no_more_seeds p (SeedsEvent time list (x ∷ xs)) f = ap takes_seed (ends_append (Some (Seeds time)) (map Seed list) (Add x ∷ map Add xs)) ∙ seed_behind (Some (Add x)) xs refl
no_more_seeds p (EmitEvent time caller ticket verdict item) f = refl
no_more_seeds p (FinishEvent time caller ticket item end adds) f = seed_behind (Some (Finish time caller ticket item end)) adds refl

no_more_adds : (p : Option Line) (e : Event) → may_add e ≡ false → takes_add (ends p (lines_of e)) ≡ false
no_more_adds p (SessionEvent time job format) f = refl
no_more_adds p (SeedsEvent time list adds) f = absurd (false≢true (sym f))
no_more_adds p (EmitEvent time caller ticket verdict item) f = refl
no_more_adds p (FinishEvent time caller ticket item end adds) f = absurd (false≢true (sym f))

-- the last line of events is that of the last one
ends_last : (p : Option Line) (es : List Event) (i : ℕ) (e : Event) → i + 1 ≡ length es → e ≡ get_or es i e → (q : Option Line) × (ends p (flat_map lines_of es) ≡ ends q (lines_of e))
ends_last p [] i e n at = absurd (omega arith)
ends_last p (x ∷ []) zero e n at = (p, ap (ends p) (append-nil (lines_of x)) ∙ ap (λ (y : Event). ends p (lines_of y)) (sym at))
ends_last p (x ∷ []) (suc i) e n at = absurd (omega arith)
ends_last p (x ∷ y ∷ es) zero e n at = absurd (omega arith)
ends_last p (x ∷ y ∷ es) (suc i) e n at =
    let more = ends_last (ends p (lines_of x)) (y ∷ es) i e (omega arith) at in
    (more.0, ends_append p (lines_of x) (flat_map lines_of (y ∷ es)) ∙ more.1)

-- where the last event has one line more, the events have
grown : (es : List Event) (i : ℕ) (old new : Event) (l : Line) → i + 1 ≡ length es → old ≡ get_or es i old → lines_of new ≡ lines_of old ++ l ∷ [] → flat_map lines_of (set es i new) ≡ flat_map lines_of es ++ l ∷ []
grown [] i old new l n at e = absurd (omega arith)
grown (x ∷ []) zero old new l n at e =
    append-nil (lines_of new) ∙ (e ∙ (ap (λ (y : Event). lines_of y ++ l ∷ []) at ∙ ap (λ (t : List Line). t ++ l ∷ []) (sym (append-nil (lines_of x)))))
grown (x ∷ []) (suc i) old new l n at e = absurd (omega arith)
grown (x ∷ y ∷ es) zero old new l n at e = absurd (omega arith)
grown (x ∷ y ∷ es) (suc i) old new l n at e =
    ap (λ (t : List Line). lines_of x ++ t) (grown (y ∷ es) i old new l (omega arith) at e) ∙ sym (append_assoc (lines_of x) (flat_map lines_of (y ∷ es)) (l ∷ []))

-- a line that may not follow the last one joins no events
pub no_join : (es : List Event) (l : Line) → follows (ends None (flat_map lines_of es)) l ≡ false → (others : List Event) → flat_map lines_of others ≢ flat_map lines_of es ++ l ∷ []
no_join es l f others e =
    false≢true (sym f ∙ chain_end None (flat_map lines_of es) l (subst (Chain None) e (chain_events None others)))

pub join_seed : (es : List Event) (i : ℕ) (old new : Event) (uri : List ℕ) (r : Result (Unit {0}) Misread) → i + 1 ≡ length es → old ≡ get_or es i old → Grows (may_seed old) (Seed uri) old new r → Joins (Seed uri) es (set es i new) r
join_seed es i old new uri (Ok done) n at h = grown es i old new (Seed uri) n at h
join_seed es i old new uri (Err Bad) n at h =
    let last = ends_last None es i old n at in
    no_join es (Seed uri) (ap takes_seed last.1 ∙ no_more_seeds last.0 old h)
join_seed es i old new uri (Err NoMemory) n at h = tt

pub join_add : (es : List Event) (i : ℕ) (old new : Event) (item : Item) (r : Result (Unit {0}) Misread) → i + 1 ≡ length es → old ≡ get_or es i old → Grows (may_add old) (Add item) old new r → Joins (Add item) es (set es i new) r
join_add es i old new item (Ok done) n at h = grown es i old new (Add item) n at h
join_add es i old new item (Err Bad) n at h =
    let last = ends_last None es i old n at in
    no_join es (Add item) (ap takes_add last.1 ∙ no_more_adds last.0 old h)
join_add es i old new item (Err NoMemory) n at h = tt

pub none_joins : (es : List Event) (l : Line) → length es ≡ 0 → follows None l ≡ false → (others : List Event) → flat_map lines_of others ≢ flat_map lines_of es ++ l ∷ []
none_joins [] l n f = no_join [] l f
none_joins (e ∷ es) l n f = absurd (omega arith)
