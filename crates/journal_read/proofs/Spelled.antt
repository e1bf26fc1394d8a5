-- Texts of events, line by line.
use Rattle.std.proofs.Common.{◌≡◌, ◌≢◌, ⊎_elim, ℕ, false, eqb, List, [], ◌∷◌, ◌++◌, length, map, refl, sym, ap, subst, ◌∙◌, arith, append_assoc, append-nil, length-append}
use Rattle.std.specs.Prelude.{flat_map}
use Rattle.std.specs.List.{AllByRecursion, join_with_byte, onto_first}
use Rattle.std.proofs.lemmas.Bool.{cases_Bool, eqb-true, cond-true, cond-false}
use Rattle.std.proofs.lemmas.Grind.{flat_map-append}
use Rattle.std.proofs.lemmas.List.Splits.{slice_split-cons_yes, slice_split-cons_no}
use Rattle.crawl_kinds.specs.declared.item.Item.{Item}
use Rattle.crawl_kinds.specs.declared.event.Event.{Event}
use Rattle.crawl_kinds.specs.declared.event.Event.TheVariants.{Session as SessionEvent, Seeds as SeedsEvent, Emit as EmitEvent, Finish as FinishEvent}
use Rattle.journal_valid.specs.Items.{IsAddress, IsAdd}
use Rattle.journal_valid.specs.Valid.{IsEvent, IsSpelled}
use Rattle.journal_read.specs.declared.line.Line.{Line}
use Rattle.journal_read.specs.declared.line.Line.TheVariants.{Seed, Add}
use Rattle.journal_read.specs.Faults.{first_line}
use Rattle.journal_read.specs.Lines.{IsLine, IsLineOf, fields_of, lines_of, text_of}
use Rattle.journal_read.specs.Reading.{cells}
use Rattle.journal_read.proofs.Cells.{cells_some}
use Rattle.journal_read.proofs.EventLaws.{all_allowed, events_text}
use Rattle.journal_read.proofs.LineLaws.{line_cells, line_same, no_line, text_cells, uncut}
use Rattle.journal_read.proofs.Visible.{all_append}

-- one text, one line
pub line_of_same : (text : List ℕ) (l m : Line) → IsLineOf text l → IsLineOf text m → l ≡ m
line_of_same text l m il im =
    line_same l m il.0 im.0 (sym (line_cells l il.0) ∙ (ap (cells 32) (sym il.1 ∙ im.1) ∙ line_cells m im.0))

parts_all : {X : Type 0} (P : X → Type 0) (xs ys : List X) → AllByRecursion P (xs ++ ys) → AllByRecursion P xs × AllByRecursion P ys
parts_all P [] ys h = (tt, h)
parts_all P (x ∷ xs) ys h = let more = parts_all P xs ys h.1 in ((h.0, more.0), more.1)

seeds_from : (us : List (List ℕ)) → AllByRecursion IsLine (map Seed us) → AllByRecursion IsAddress us
seeds_from [] h = tt
seeds_from (u ∷ us) h = (h.0, seeds_from us h.1)

adds_from : (xs : List Item) → AllByRecursion IsLine (map Add xs) → AllByRecursion IsAdd xs
adds_from [] h = tt
adds_from (x ∷ xs) h = (h.0, adds_from xs h.1)

event_from : (e : Event) → AllByRecursion IsLine (lines_of e) → IsEvent e
event_from (SessionEvent time job format) h = h.0
event_from (SeedsEvent time list adds) h =
    let both = parts_all IsLine (map Seed list) (map Add adds) h.1 in
    (h.0, seeds_from list both.0, adds_from adds both.1)
event_from (EmitEvent time caller ticket verdict item) h = h.0
event_from (FinishEvent time caller ticket item end adds) h = (h.0.0, h.0.1, h.0.2, adds_from adds h.1)

-- events with allowed lines are valid
pub events_from : (es : List Event) → AllByRecursion IsLine (flat_map lines_of es) → AllByRecursion IsEvent es
events_from [] h = tt
events_from (e ∷ es) h =
    let both = parts_all IsLine (lines_of e) (flat_map lines_of es) h in
    (event_from e both.0, events_from es both.1)

pub spelled_by : (es : List Event) (ls : List Line) (text : List ℕ) → flat_map lines_of es ≡ ls → AllByRecursion IsLine ls → flat_map text_of ls ≡ text → IsSpelled es text
spelled_by es ls text e all t = record {
  valid = events_from es (subst (AllByRecursion IsLine) (sym e) all);
  spelled = sym (events_text es) ∙ (ap (flat_map text_of) e ∙ t);
}

pub text_by : (es : List Event) (text : List ℕ) → IsSpelled es text → flat_map text_of (flat_map lines_of es) ≡ text
text_by es text is = events_text es ∙ is.spelled

-- one line more
pub spelled_more : (old new : List Event) (l : Line) (before text : List ℕ) → IsSpelled old before → IsLineOf text l → flat_map lines_of new ≡ flat_map lines_of old ++ l ∷ [] → IsSpelled new (before ++ (text ++ 10 ∷ []))
spelled_more old new l before text is il e =
    let ls = flat_map lines_of old in
    let own : text_of l ≡ text ++ 10 ∷ [] = ap (λ (t : List ℕ). t ++ 10 ∷ []) (sym il.1) in
    spelled_by new (ls ++ l ∷ []) (before ++ (text ++ 10 ∷ [])) e (all_append IsLine ls (l ∷ []) (all_allowed old is.valid) (il.0, tt))
    (flat_map-append text_of ls (l ∷ []) ∙ (ap (λ (t : List ℕ). t ++ (text_of l ++ [])) (text_by old before is) ∙ ap (λ (t : List ℕ). before ++ t) (append-nil (text_of l) ∙ own)))

-- what follows the lines of a text are further lines
pub lines_behind : (ls ms : List Line) (rest : List ℕ) → AllByRecursion IsLine ls → AllByRecursion IsLine ms → flat_map text_of ms ≡ flat_map text_of ls ++ rest → (ks : List Line) × (ms ≡ ls ++ ks) × (flat_map text_of ks ≡ rest) × AllByRecursion IsLine ks
lines_behind [] ms rest hl hm e = (ms, refl, e, hm)
lines_behind (l ∷ ls) [] rest hl hm e = absurd (no_line l (flat_map text_of ls ++ rest) (e ∙ append_assoc (text_of l) (flat_map text_of ls) rest))
lines_behind (l ∷ ls) (m ∷ ms) rest hl hm e =
    let cut : join_with_byte 32 (fields_of m) ∷ cells 10 (flat_map text_of ms) ≡ join_with_byte 32 (fields_of l) ∷ cells 10 (flat_map text_of ls ++ rest) =
    sym (text_cells m (flat_map text_of ms) hm.0) ∙ (ap (cells 10) (e ∙ append_assoc (text_of l) (flat_map text_of ls) rest) ∙ text_cells l (flat_map text_of ls ++ rest) hl.0) in
    let one : join_with_byte 32 (fields_of m) ≡ join_with_byte 32 (fields_of l) = cc in
    let others : cells 10 (flat_map text_of ms) ≡ cells 10 (flat_map text_of ls ++ rest) = cc in
    let same = line_of_same (join_with_byte 32 (fields_of m)) m l (hm.0, refl) (hl.0, one) in
    let more = lines_behind ls ms rest hl.1 hm.1 (uncut _ _ others) in
    (more.0, ap (λ (x : Line). x ∷ ms) same ∙ ap (λ (t : List Line). l ∷ t) more.1, more.2, more.3)

-- the first line of a text that is cut at a line feed, and of one that has none
first_by : (x : ℕ) (xs : List ℕ) (parts : List (List ℕ)) (a b : List ℕ) (cs : List (List ℕ)) → eqb x 10 ≡ false → ((y : List ℕ) → parts ≡ y ∷ b ∷ cs → first_line xs ≡ y ++ 10 ∷ []) → onto_first x parts ≡ a ∷ b ∷ cs → x ∷ first_line xs ≡ a ++ 10 ∷ []
first_by x xs [] a b cs n more e = absurd (cc)
first_by x xs (y ∷ ys) a b cs n more e =
    let front : a ≡ x ∷ y = cc in
    let rest : ys ≡ b ∷ cs = cc in
    ap (λ (t : List ℕ). x ∷ t) (more y (ap (λ (t : List (List ℕ)). y ∷ t) rest)) ∙ ap (λ (t : List ℕ). t ++ 10 ∷ []) (sym front)

pub first_cut : (text a b : List ℕ) (cs : List (List ℕ)) → cells 10 text ≡ a ∷ b ∷ cs → first_line text ≡ a ++ 10 ∷ []
first_cut [] a b cs e = absurd (cc)
first_cut (x ∷ xs) a b cs e =
    ⊎_elim
    (λ is.
    let split : [] ∷ cells 10 xs ≡ a ∷ b ∷ cs = sym (slice_split-cons_yes (λ y. eqb y 10) x xs is) ∙ e in
    let none : a ≡ [] = cc in
    cond-true (eqb x 10) (x ∷ []) (x ∷ first_line xs) is ∙ (ap (λ (n : ℕ). n ∷ []) (eqb-true x 10 is) ∙ ap (λ (t : List ℕ). t ++ 10 ∷ []) (sym none)))
    (λ no_. cond-false (eqb x 10) (x ∷ []) (x ∷ first_line xs) no_ ∙ first_by x xs (cells 10 xs) a b cs no_ (λ y f. first_cut xs y b cs f) (sym (slice_split-cons_no (λ y. eqb y 10) x xs no_) ∙ e))
    (cases_Bool (eqb x 10))

whole_by : (x : ℕ) (xs : List ℕ) (parts : List (List ℕ)) → (parts ≡ xs ∷ [] → first_line xs ≡ xs) → onto_first x parts ≡ (x ∷ xs) ∷ [] → x ∷ first_line xs ≡ x ∷ xs
whole_by x xs [] more e = let none : xs ≡ [] = cc in ap (λ (t : List ℕ). x ∷ t) (ap first_line none ∙ sym none)
whole_by x xs (y ∷ ys) more e =
    let front : y ≡ xs = cc in
    let rest : ys ≡ [] = cc in
    ap (λ (t : List ℕ). x ∷ t) (more (cc))

pub first_whole : (text : List ℕ) → cells 10 text ≡ text ∷ [] → first_line text ≡ text
first_whole [] e = refl
first_whole (x ∷ xs) e =
    ⊎_elim
    (λ is. let split : [] ∷ cells 10 xs ≡ (x ∷ xs) ∷ [] = sym (slice_split-cons_yes (λ y. eqb y 10) x xs is) ∙ e in absurd (cc))
    (λ no_. cond-false (eqb x 10) (x ∷ []) (x ∷ first_line xs) no_ ∙ whole_by x xs (cells 10 xs) (λ f. first_whole xs f) (sym (slice_split-cons_no (λ y. eqb y 10) x xs no_) ∙ e))
    (cases_Bool (eqb x 10))

-- the lines of events that go on behind others
pub goes_on : (old others : List Event) (before rest : List ℕ) → IsSpelled old before → IsSpelled others (before ++ rest) → (ks : List Line) × (flat_map lines_of others ≡ flat_map lines_of old ++ ks) × (flat_map text_of ks ≡ rest) × AllByRecursion IsLine ks
goes_on old others before rest is io =
    lines_behind (flat_map lines_of old) (flat_map lines_of others) rest (all_allowed old is.valid) (all_allowed others io.valid)
    (text_by others (before ++ rest) io ∙ ap (λ (t : List ℕ). t ++ rest) (sym (text_by old before is)))

no_lines : (ks : List Line) → flat_map text_of ks ≡ [] → ks ≡ []
no_lines [] e = refl
no_lines (k ∷ ks) e = absurd (no_line k (flat_map text_of ks) (sym e))

pub no_cut_line : (ks : List Line) (rest : List ℕ) → AllByRecursion IsLine ks → rest ≢ [] → cells 10 rest ≡ rest ∷ [] → flat_map text_of ks ≡ rest → ⊥
no_cut_line [] rest all some whole e = some (sym e)
no_cut_line (k ∷ ks) rest all some whole e =
    let cut : join_with_byte 32 (fields_of k) ∷ cells 10 (flat_map text_of ks) ≡ rest ∷ [] = sym (text_cells k (flat_map text_of ks) all.0) ∙ (ap (cells 10) e ∙ whole) in
    let none : cells 10 (flat_map text_of ks) ≡ [] = cc in
    cells_some 10 (flat_map text_of ks) none

short : (a b : List ℕ) → a ++ b ≡ b → a ≡ []
short [] b e = refl
short (x ∷ xs) b e = absurd (omega (arith, ap length e, length-append (x ∷ xs) b))

-- the one line that a text is
pub one_line : (ks : List Line) (first more : List ℕ) → AllByRecursion IsLine ks → cells 10 (first ++ 10 ∷ more) ≡ first ∷ cells 10 more → flat_map text_of ks ≡ first ++ 10 ∷ [] → (k : Line) × (ks ≡ k ∷ []) × IsLineOf first k
one_line [] first more all cut e = absurd (omega (arith, ap length e, length-append first (10 ∷ [])))
one_line (k ∷ ks) first more all cut e =
    let rest = flat_map text_of ks in
    let both : text_of k ++ (rest ++ more) ≡ first ++ 10 ∷ more = sym (append_assoc (text_of k) rest more) ∙ (ap (λ (t : List ℕ). t ++ more) e ∙ append_assoc first (10 ∷ []) more) in
    let parts : join_with_byte 32 (fields_of k) ∷ cells 10 (rest ++ more) ≡ first ∷ cells 10 more = sym (text_cells k (rest ++ more) all.0) ∙ (ap (cells 10) both ∙ cut) in
    let own : first ≡ join_with_byte 32 (fields_of k) = cc in
    let others : cells 10 (rest ++ more) ≡ cells 10 more = cc in
    let none = no_lines ks (short rest more (uncut (rest ++ more) more others)) in
    (k, ap (λ (t : List Line). k ∷ t) none, (all.0, own))
