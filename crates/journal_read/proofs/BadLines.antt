-- A text with a bad line is that of no events, and has one bad line.
use Rattle.std.proofs.Common.{◌≡◌, ◌≢◌, ◌⊎◌, inl, inr, ⊎_elim, ℕ, eqb, List, [], ◌∷◌, ◌++◌, length, map, refl, sym, ap, subst, ◌∙◌, arith, append_assoc, append-nil}
use Rattle.std.specs.Prelude.{count_by, flat_map}
use Rattle.std.specs.List.{AllByRecursion, join_with_byte}
use Rattle.crawl_kinds.specs.declared.event.Event.{Event}
use Rattle.crawl_kinds.specs.declared.event.Event.TheVariants.{Session as SessionEvent, Seeds as SeedsEvent, Emit as EmitEvent, Finish as FinishEvent}
use Rattle.journal_valid.specs.Valid.{IsSpelled}
use Rattle.journal_read.specs.declared.line.Line.{Line}
use Rattle.journal_read.specs.declared.line.Line.TheVariants.{Session, Seeds, Seed, Add, Emit, Finish}
use Rattle.journal_read.specs.Faults.{IsBadLine, first_line}
use Rattle.journal_read.specs.Lines.{IsLine, fields_of, lines_of, text_of}
use Rattle.journal_read.specs.Reading.{cells}
use Rattle.journal_read.proofs.LineLaws.{text_cells}
use Rattle.journal_read.proofs.Spelled.{goes_on, spelled_more}
use Rattle.journal_read.proofs.Progress.{first_by_cut}

-- of two ways to cut a list, one cuts at or behind the other
split : {X : Type 0} (a b c d : List X) → a ++ b ≡ c ++ d → ((x : List X) × (a ≡ c ++ x) × (d ≡ x ++ b)) ⊎ ((x : List X) × (c ≡ a ++ x) × (b ≡ x ++ d))
split [] b c d e = inr (c, refl, e)
split (y ∷ a) b [] d e = inl (y ∷ a, refl, sym e)
split {X} (y ∷ a) b (z ∷ c) d e =
    let rest : a ++ b ≡ c ++ d = cc in
    let first : y ≡ z = cc in
    ⊎_elim
    (λ l. inl (l.0, ap (λ (t : X). t ∷ a) first ∙ ap (λ (t : List X). z ∷ t) l.1, l.2))
    (λ r. inr (r.0, ap (λ (t : X). t ∷ c) (sym first) ∙ ap (λ (t : List X). y ∷ t) r.1, r.2))
    (split a b c d rest)

map_front : {X : Type 0} (f : X → Line) (xs : List X) (ls rest : List Line) → map f xs ≡ ls ++ rest → (ys : List X) × (map f ys ≡ ls)
map_front f xs [] rest e = ([], refl)
map_front f [] (l ∷ ls) rest e = absurd (cc)
map_front f (x ∷ xs) (l ∷ ls) rest e =
    let first : f x ≡ l = cc in
    let others : map f xs ≡ ls ++ rest = cc in
    let more = map_front f xs ls rest others in
    (x ∷ more.0, ap (λ (t : Line). t ∷ map f more.0) first ∙ ap (λ (t : List Line). l ∷ t) more.1)

-- the first lines of an event are no lines, or those of an event
one_front : (e : Event) (l : Line) (ls rest : List Line) → lines_of e ≡ l ∷ (ls ++ rest) → lines_of e ≡ l ∷ [] → ls ≡ []
one_front e l [] rest f g = refl
one_front e l (m ∷ ls) rest f g = absurd (let both : l ∷ (m ∷ (ls ++ rest)) ≡ l ∷ [] = sym f ∙ g in omega (arith, ap length both))

event_front : (e : Event) (ls rest : List Line) → lines_of e ≡ ls ++ rest → (es : List Event) × (flat_map lines_of es ≡ ls)
event_front e [] rest h = ([], refl)
event_front (SessionEvent time job format) (l ∷ ls) rest h =
    let none : ls ≡ [] = one_front (SessionEvent time job format) l ls rest h (cc) in
    (SessionEvent time job format ∷ [], let first : Session time job format ≡ l = cc in cc)
event_front (SeedsEvent time list adds) (l ∷ ls) rest h =
    let first : Seeds time ≡ l = cc in
    let others : map Seed list ++ map Add adds ≡ ls ++ rest = cc in
    ⊎_elim
    (λ a.
    let m = map_front Seed list ls a.0 a.1 in
    (SeedsEvent time m.0 [] ∷ [], append-nil (Seeds time ∷ (map Seed m.0 ++ [])) ∙ (ap (λ (t : List Line). Seeds time ∷ t) (append-nil (map Seed m.0) ∙ m.1) ∙ ap (λ (t : Line). t ∷ ls) first)))
    (λ b.
    let m = map_front Add adds b.0 rest b.2 in
    (SeedsEvent time list m.0 ∷ [], append-nil (Seeds time ∷ (map Seed list ++ map Add m.0)) ∙ (ap (λ (t : List Line). Seeds time ∷ t) (ap (λ (t : List Line). map Seed list ++ t) m.1 ∙ sym b.1) ∙ ap (λ (t : Line). t ∷ ls) first)))
    (split (map Seed list) (map Add adds) ls rest others)
event_front (EmitEvent time caller ticket verdict item) (l ∷ ls) rest h =
    let none : ls ≡ [] = one_front (EmitEvent time caller ticket verdict item) l ls rest h (cc) in
    (EmitEvent time caller ticket verdict item ∷ [], let first : Emit time caller ticket verdict item ≡ l = cc in cc)
event_front (FinishEvent time caller ticket item end adds) (l ∷ ls) rest h =
    let first : Finish time caller ticket item end ≡ l = cc in
    let others : map Add adds ≡ ls ++ rest = cc in
    let m = map_front Add adds ls rest others in
    (FinishEvent time caller ticket item end m.0 ∷ [], append-nil (Finish time caller ticket item end ∷ map Add m.0) ∙ (ap (λ (t : List Line). Finish time caller ticket item end ∷ t) m.1 ∙ ap (λ (t : Line). t ∷ ls) first))

-- where lines are those of events, so are the first of them
pub events_front : (es : List Event) (ls rest : List Line) → flat_map lines_of es ≡ ls ++ rest → (fs : List Event) × (flat_map lines_of fs ≡ ls)
events_front [] [] rest h = ([], refl)
events_front [] (l ∷ ls) rest h = absurd (cc)
events_front (e ∷ es) ls rest h =
    ⊎_elim
    (λ a. event_front e ls a.0 a.1)
    (λ b.
    let more = events_front es b.0 rest b.2 in
    (e ∷ more.0, ap (λ (t : List Line). lines_of e ++ t) more.1 ∙ sym b.1))
    (split (lines_of e) (flat_map lines_of es) ls rest h)

-- behind the lines before the bad one, no text that begins with it is that of events
no_more_by : (old es : List Event) (before behind x more : List ℕ) (ks : List Line) → IsSpelled old before → behind ≡ x ++ more → x ≢ [] → ((others : List Event) → IsSpelled others (before ++ first_line behind) → ⊥) → flat_map lines_of es ≡ flat_map lines_of old ++ ks → flat_map text_of ks ≡ x → AllByRecursion IsLine ks → ⊥
no_more_by old es before behind x more [] good whole some bad e t all = some (sym t)
no_more_by old es before behind x more (k ∷ ks) good whole some bad e t all =
    let own = join_with_byte 32 (fields_of k) in
    let rest = flat_map text_of ks ++ more in
    let front = events_front es (flat_map lines_of old ++ k ∷ []) ks (e ∙ sym (append_assoc (flat_map lines_of old) (k ∷ []) ks)) in
    let text : behind ≡ text_of k ++ rest = whole ∙ (ap (λ (u : List ℕ). u ++ more) (sym t) ∙ append_assoc (text_of k) (flat_map text_of ks) more) in
    let cut : cells 10 behind ≡ own ∷ cells 10 rest = ap (cells 10) text ∙ text_cells k rest all.0 in
    let first : first_line behind ≡ own ++ 10 ∷ [] = first_by_cut behind own rest (cells 10 rest) refl cut in
    bad front.0 (subst (λ (u : List ℕ). IsSpelled front.0 (before ++ u)) (sym first) (spelled_more old front.0 k before own good (all.0, refl) front.1))

no_more : (old es : List Event) (before behind x more : List ℕ) → IsSpelled old before → behind ≡ x ++ more → x ≢ [] → ((others : List Event) → IsSpelled others (before ++ first_line behind) → ⊥) → IsSpelled es (before ++ x) → ⊥
no_more old es before behind x more good whole some bad is =
    let on = goes_on old es before x good is in
    no_more_by old es before behind x more on.0 good whole some bad on.1 on.2 on.3

pub bad_is_none : (n : ℕ) (text : List ℕ) (es : List Event) → IsBadLine n text → IsSpelled es text → ⊥
bad_is_none n text es b is =
    no_more b.events es b.before b.behind b.behind [] b.good (sym (append-nil b.behind)) b.some b.bad (subst (IsSpelled es) b.whole is)

-- the text before the one bad line is not longer than that before the other
not_behind : (n m : ℕ) (text : List ℕ) (b : IsBadLine n text) (d : IsBadLine m text) (x : List ℕ) → b.before ≡ d.before ++ x → d.behind ≡ x ++ b.behind → n ≡ m
not_behind n m text b d [] e f =
    omega (arith, b.number, d.number, ap (count_by (λ y. eqb y 10)) (e ∙ append-nil d.before))
not_behind n m text b d (y ∷ x) e f =
    absurd (no_more d.events b.events d.before d.behind (y ∷ x) b.behind d.good f (λ none. omega (arith, ap length none)) d.bad (subst (IsSpelled b.events) e b.good))

pub one_bad : (n m : ℕ) (text : List ℕ) → IsBadLine n text → IsBadLine m text → n ≡ m
one_bad n m text b d =
    ⊎_elim
    (λ l. not_behind n m text b d l.0 l.1 l.2)
    (λ r. sym (not_behind m n text d b r.0 r.1 r.2))
    (split b.before b.behind d.before d.behind (sym b.whole ∙ d.whole))
