-- One joined text, one list of valid events.
use Rattle.std.proofs.Common.{◌≡◌, ℕ, List, [], ◌∷◌, ◌++◌, map, refl, sym, ap, ◌∙◌, append_assoc, append-nil}
use Rattle.std.specs.Prelude.{flat_map}
use Rattle.std.specs.List.{AllByRecursion}
use Rattle.crawl_kinds.specs.declared.item.Item.{Item}
use Rattle.crawl_kinds.specs.declared.event.Event.{Event}
use Rattle.crawl_kinds.specs.declared.event.Event.TheVariants.{Session as SessionEvent, Seeds as SeedsEvent, Emit as EmitEvent, Finish as FinishEvent}
use Rattle.journal_spec.specs.Journal.{spelling, seed_line, add_line, seeds_line, session_line, emit_line, finish_line}
use Rattle.journal_valid.specs.Items.{IsAddress, IsAdd}
use Rattle.journal_valid.specs.Valid.{IsEvent, IsSpelled}
use Rattle.journal_read.specs.declared.line.Line.TheVariants.{Seed, Add}
use Rattle.journal_read.specs.Lines.{text_of, IsLine, lines_of}
use Rattle.journal_read.proofs.Visible.{all_append}
use Rattle.journal_read.proofs.LineLaws.{lines_same}
use Rattle.journal_read.proofs.Grammar.{events_same}

flat_append : {X : Type 0} (f : X → List ℕ) (xs ys : List X) → flat_map f (xs ++ ys) ≡ flat_map f xs ++ flat_map f ys
flat_append f [] ys = refl
flat_append f (x ∷ xs) ys = ap (λ t. f x ++ t) (flat_append f xs ys) ∙ sym (append_assoc (f x) (flat_map f xs) (flat_map f ys))

adds_text : (adds : List Item) → flat_map text_of (map Add adds) ≡ flat_map add_line adds
adds_text [] = refl
adds_text (item ∷ items) = ap (λ t. add_line item ++ t) (adds_text items)

seeds_text : (list : List (List ℕ)) → flat_map text_of (map Seed list) ≡ flat_map seed_line list
seeds_text [] = refl
seeds_text (uri ∷ uris) = ap (λ t. seed_line uri ++ t) (seeds_text uris)

-- the text of an event's lines is its spelling
pub lines_text : (e : Event) → flat_map text_of (lines_of e) ≡ spelling e
lines_text (SessionEvent time job format) = append-nil (session_line time job format)
lines_text (SeedsEvent time list adds) =
    ap (λ t. seeds_line time ++ t) (flat_append text_of (map Seed list) (map Add adds))
    ∙ (sym (append_assoc (seeds_line time) (flat_map text_of (map Seed list)) (flat_map text_of (map Add adds)))
    ∙ (ap (λ t. (seeds_line time ++ t) ++ flat_map text_of (map Add adds)) (seeds_text list)
    ∙ ap (λ t. (seeds_line time ++ flat_map seed_line list) ++ t) (adds_text adds)))
lines_text (EmitEvent time caller ticket verdict item) = append-nil (emit_line time caller ticket verdict item)
lines_text (FinishEvent time caller ticket item end adds) = ap (λ t. finish_line time caller ticket item end ++ t) (adds_text adds)

pub events_text : (es : List Event) → flat_map text_of (flat_map lines_of es) ≡ flat_map spelling es
events_text [] = refl
events_text (e ∷ es) =
    flat_append text_of (lines_of e) (flat_map lines_of es)
    ∙ (ap (λ t. t ++ flat_map text_of (flat_map lines_of es)) (lines_text e) ∙ ap (λ t. spelling e ++ t) (events_text es))

all_seeds : (list : List (List ℕ)) → AllByRecursion IsAddress list → AllByRecursion IsLine (map Seed list)
all_seeds [] all = tt
all_seeds (uri ∷ uris) all = (all.0, all_seeds uris all.1)

all_adds : (adds : List Item) → AllByRecursion IsAdd adds → AllByRecursion IsLine (map Add adds)
all_adds [] all = tt
all_adds (item ∷ items) all = (all.0, all_adds items all.1)

-- a valid event has allowed lines
pub lines_allowed : (e : Event) → IsEvent e → AllByRecursion IsLine (lines_of e)
lines_allowed (SessionEvent time job format) is = (is, tt)
lines_allowed (SeedsEvent time list adds) is = (is.0, all_append IsLine (map Seed list) (map Add adds) (all_seeds list is.1) (all_adds adds is.2))
lines_allowed (EmitEvent time caller ticket verdict item) is = (is, tt)
lines_allowed (FinishEvent time caller ticket item end adds) is = ((is.0, is.1, is.2), all_adds adds is.3)

pub all_allowed : (es : List Event) → AllByRecursion IsEvent es → AllByRecursion IsLine (flat_map lines_of es)
all_allowed [] all = tt
all_allowed (e ∷ es) all = all_append IsLine (lines_of e) (flat_map lines_of es) (lines_allowed e all.0) (all_allowed es all.1)

pub one_text : (es fs : List Event) (text : List ℕ) → IsSpelled es text → IsSpelled fs text → es ≡ fs
one_text es fs text he hf =
    events_same es fs
    (lines_same (flat_map lines_of es) (flat_map lines_of fs) (all_allowed es he.valid) (all_allowed fs hf.valid)
    (events_text es ∙ (he.spelled ∙ (sym hf.spelled ∙ sym (events_text fs)))))
