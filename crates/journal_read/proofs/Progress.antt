-- How far a text of lines is read.
use Rattle.std.proofs.Common.{◌≡◌, ◌≢◌, ℕ, ◌+◌, ◌<◌, ◌≤◌, eqb, List, [], ◌∷◌, ◌++◌, length, Ok, Err, refl, sym, ap, subst, ◌∙◌, arith, append_assoc, append-nil, length-append}
use Rattle.std.specs.Prelude.{count_by, cond, flat_map}
use Rattle.std.proofs.lemmas.List.Splits.{length-slice_split}
use Rattle.std.proofs.lemmas.List.Sums.{count_by-le-length, sum_by-append}
use Rattle.crawl_kinds.specs.declared.event.Event.{Event}
use Rattle.journal_valid.specs.Valid.{IsSpelled}
use Rattle.journal_read.specs.declared.fault.Misread.TheVariants.{Bad}
use Rattle.journal_read.specs.Faults.{IsBadLine, first_line}
use Rattle.journal_read.specs.Joining.{Continues}
use Rattle.journal_read.specs.declared.line.Line.{Line}
use Rattle.journal_read.specs.Lines.{lines_of}
use Rattle.journal_read.specs.Reading.{cells}
use Rattle.journal_read.proofs.Spelled.{first_cut, first_whole, goes_on, no_cut_line, one_line, spelled_more}
use Rattle.journal_read.proofs.Cells.{cells_some}

-- the lines before the rest, of which there are so many, are those of these events
pub record IsRead (text rest : List ℕ) (line : ℕ) (events : List Event) : Type 0 where
  pub before : List ℕ
  pub whole : text ≡ before ++ rest
  pub number : line ≡ count_by (λ b. eqb b 10) before
  pub good : IsSpelled events before

abbrev feeds : List ℕ → ℕ
feeds text = count_by (λ b. eqb b 10) text

feeds-append : (a b : List ℕ) → feeds (a ++ b) ≡ feeds a + feeds b
feeds-append a b = sum_by-append (λ x. cond (eqb x 10) 1 0) a b

pub nothing_read : (text : List ℕ) → IsRead text text 0 []
nothing_read text = record { before = []; whole = refl; number = refl; good = record { valid = tt; spelled = refl } }

pub line_fits : (text rest : List ℕ) (line : ℕ) (events : List Event) → IsRead text rest line events → 0 < length rest → line + 1 ≤ length text
line_fits text rest line events is some =
    omega (arith, is.number, count_by-le-length (λ b. eqb b 10) is.before, ap length is.whole, length-append is.before rest)

-- the part before the first line feed has none
no_feed : (rest first more : List ℕ) → rest ≡ first ++ 10 ∷ more → cells 10 rest ≡ first ∷ cells 10 more → feeds first ≡ 0
no_feed rest first more whole cut =
    let one : feeds (10 ∷ []) ≡ 1 = refl in
    let step : feeds (10 ∷ more) ≡ feeds (10 ∷ []) + feeds more = feeds-append (10 ∷ []) more in
    omega (arith, ap length cut, length-slice_split (λ b. eqb b 10) rest, length-slice_split (λ b. eqb b 10) more, ap feeds whole, feeds-append first (10 ∷ more))

pub line_read : (text rest first more : List ℕ) (line : ℕ) (old new : List Event) → IsRead text rest line old → rest ≡ first ++ 10 ∷ more → cells 10 rest ≡ first ∷ cells 10 more → Continues first old new (Ok tt) → IsRead text more (line + 1) new
line_read text rest first more line old new is whole cut h = record {
  before = is.before ++ (first ++ 10 ∷ []);
  whole = is.whole ∙ (ap (λ (t : List ℕ). is.before ++ t) (whole ∙ sym (append_assoc first (10 ∷ []) more)) ∙ sym (append_assoc is.before (first ++ 10 ∷ []) more));
  number = omega (arith, is.number, feeds-append is.before (first ++ 10 ∷ []), feeds-append first (10 ∷ []), no_feed rest first more whole cut);
  good = spelled_more old new h.0 is.before first is.good h.1 h.2;
}

pub first_by_cut : (rest first more : List ℕ) (parts : List (List ℕ)) → cells 10 more ≡ parts → cells 10 rest ≡ first ∷ cells 10 more → first_line rest ≡ first ++ 10 ∷ []
first_by_cut rest first more [] e cut = absurd (cells_some 10 more e)
first_by_cut rest first more (b ∷ cs) e cut = first_cut rest first b cs (cut ∙ ap (λ (t : List (List ℕ)). first ∷ t) e)

bad_by : (old new : List Event) (before rest first more : List ℕ) → IsSpelled old before → rest ≡ first ++ 10 ∷ more → cells 10 rest ≡ first ∷ cells 10 more → Continues first old new (Err Bad) → (others : List Event) → IsSpelled others (before ++ first_line rest) → ⊥
bad_by old new before rest first more good whole cut h others io =
    let more_cut : cells 10 (first ++ 10 ∷ more) ≡ first ∷ cells 10 more = sym (ap (cells 10) whole) ∙ cut in
    let on = goes_on old others before (first ++ 10 ∷ []) good (subst (λ (t : List ℕ). IsSpelled others (before ++ t)) (first_by_cut rest first more (cells 10 more) refl cut) io) in
    let one = one_line on.0 first more on.3 more_cut on.2 in
    h one.0 one.2 others (on.1 ∙ ap (λ (t : List Line). flat_map lines_of old ++ t) one.1)

pub bad_line : (text rest first more : List ℕ) (line : ℕ) (old new : List Event) → IsRead text rest line old → rest ≢ [] → rest ≡ first ++ 10 ∷ more → cells 10 rest ≡ first ∷ cells 10 more → Continues first old new (Err Bad) → IsBadLine (line + 1) text
bad_line text rest first more line old new is some whole cut h = record {
  before = is.before;
  behind = rest;
  whole = is.whole;
  some = some;
  number = omega (arith, is.number);
  events = old;
  good = is.good;
  bad = λ others io. bad_by old new is.before rest first more is.good whole cut h others io;
}

pub cut_line : (text rest : List ℕ) (line : ℕ) (old : List Event) → IsRead text rest line old → rest ≢ [] → cells 10 rest ≡ rest ∷ [] → IsBadLine (line + 1) text
cut_line text rest line old is some whole = record {
  before = is.before;
  behind = rest;
  whole = is.whole;
  some = some;
  number = omega (arith, is.number);
  events = old;
  good = is.good;
  bad = λ others io.
      let on = goes_on old others is.before rest is.good (subst (λ (t : List ℕ). IsSpelled others (is.before ++ t)) (first_whole rest whole) io) in
      no_cut_line on.0 rest on.3 some whole on.2;
}

pub all_read : (text rest : List ℕ) (line : ℕ) (events : List Event) → IsRead text rest line events → length rest ≡ 0 → IsSpelled events text
all_read text [] line events is none = subst (IsSpelled events) (sym (is.whole ∙ append-nil is.before)) is.good
all_read text (b ∷ bytes) line events is none = absurd (omega arith)
