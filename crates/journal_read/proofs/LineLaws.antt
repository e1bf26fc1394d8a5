-- Lines and their texts: one text, one line; and one text of lines, one list of lines.
use Rattle.std.proofs.Common.{◌≡◌, ℕ, ◌<◌, ◌≤◌, false, eqb, List, [], ◌∷◌, ◌++◌, length, get_or, drop, Some, refl, sym, ap, ◌∙◌, arith, append_assoc, length-append}
use Rattle.std.specs.Prelude.{flat_map}
use Rattle.std.specs.List.{AllByRecursion, join_with_byte}
use Rattle.std.proofs.lemmas.Fmt.{decimal_injective, signed_decimal_injective}
use Rattle.std.proofs.lemmas.List.Splits.{slice_split_at, join_with_byte-slice_split}
use Rattle.crawl_kinds.specs.declared.event.Verdict.{Verdict}
use Rattle.crawl_kinds.specs.declared.event.Verdict.TheVariants.{Allowed, Precluded, Needed, Unsupported, Unreachable}
use Rattle.crawl_kinds.specs.declared.event.Outcome.{Outcome}
use Rattle.crawl_kinds.specs.declared.event.Outcome.TheVariants.{Success, Failure, Disregard, Retry}
use Rattle.crawl_kinds.specs.declared.event.End.{End}
use Rattle.journal_spec.specs.Fields.{verdict_field, outcome_tag, notes_field, end_fields}
use Rattle.journal_valid.specs.Ends.{IsEnd, outcome_of}
use Rattle.journal_read.specs.declared.line.Line.{Line}
use Rattle.journal_read.specs.declared.line.Line.TheVariants.{Session, Seeds, Seed, Add, Emit, Finish}
use Rattle.journal_read.specs.Reading.{cells, AreVisible}
use Rattle.journal_read.specs.Lines.{fields_of, text_of, IsLine}
use Rattle.journal_read.proofs.Cells.{IsFree, joined_cells, free_from_visible}
use Rattle.journal_read.proofs.Visible.{fields_visible, code_in}
use Rattle.journal_read.proofs.Same.{at, item_same, fetch_same, body_same}
use Rattle.std.proofs.lemmas.List.Elements.{All-nil, All-cons}
use Rattle.crawl_kinds.specs.Text.{is_visible}
use Rattle.journal_read.proofs.Remarks.{notes_same, code_small, free_append}

-- the bytes of the tag
abbrev first_byte : List (List ℕ) → ℕ
first_byte fields = get_or (get_or fields 0 []) 0 0

abbrev second_byte : List (List ℕ) → ℕ
second_byte fields = get_or (get_or fields 0 []) 1 0

-- the tag of an end is none of the other tags
end_tag : (o : Outcome) (rest : List (List ℕ)) → (first_byte (outcome_tag o ∷ rest) ≡ 70) × (100 ≤ second_byte (outcome_tag o ∷ rest)) × (second_byte (outcome_tag o ∷ rest) ≡ 101 → ⊥)
end_tag Success rest = (refl, omega arith, λ e. omega (arith, e))
end_tag Failure rest = (refl, omega arith, λ e. omega (arith, e))
end_tag Disregard rest = (refl, omega arith, λ e. omega (arith, e))
end_tag Retry rest = (refl, omega arith, λ e. omega (arith, e))

verdict_same : (v w : Verdict) → verdict_field v ≡ verdict_field w → v ≡ w
verdict_same Allowed Allowed e = refl
verdict_same Allowed Precluded e = absurd (omega (arith, ap (λ (t : List ℕ). get_or t 0 0) e))
verdict_same Allowed Needed e = absurd (omega (arith, ap (λ (t : List ℕ). get_or t 0 0) e))
verdict_same Allowed Unsupported e = absurd (omega (arith, ap (λ (t : List ℕ). get_or t 0 0) e))
verdict_same Allowed Unreachable e = absurd (omega (arith, ap (λ (t : List ℕ). get_or t 0 0) e))
verdict_same Precluded Allowed e = absurd (omega (arith, ap (λ (t : List ℕ). get_or t 0 0) e))
verdict_same Precluded Precluded e = refl
verdict_same Precluded Needed e = absurd (omega (arith, ap (λ (t : List ℕ). get_or t 0 0) e))
verdict_same Precluded Unsupported e = absurd (omega (arith, ap (λ (t : List ℕ). get_or t 0 0) e))
verdict_same Precluded Unreachable e = absurd (omega (arith, ap (λ (t : List ℕ). get_or t 0 0) e))
verdict_same Needed Allowed e = absurd (omega (arith, ap (λ (t : List ℕ). get_or t 0 0) e))
verdict_same Needed Precluded e = absurd (omega (arith, ap (λ (t : List ℕ). get_or t 0 0) e))
verdict_same Needed Needed e = refl
verdict_same Needed Unsupported e = absurd (omega (arith, ap (λ (t : List ℕ). get_or t 0 0) e))
verdict_same Needed Unreachable e = absurd (omega (arith, ap (λ (t : List ℕ). get_or t 0 0) e))
verdict_same Unsupported Allowed e = absurd (omega (arith, ap (λ (t : List ℕ). get_or t 0 0) e))
verdict_same Unsupported Precluded e = absurd (omega (arith, ap (λ (t : List ℕ). get_or t 0 0) e))
verdict_same Unsupported Needed e = absurd (omega (arith, ap (λ (t : List ℕ). get_or t 0 0) e))
verdict_same Unsupported Unsupported e = refl
verdict_same Unsupported Unreachable e = absurd (omega (arith, ap (λ (t : List ℕ). get_or t 0 0) e))
verdict_same Unreachable Allowed e = absurd (omega (arith, ap (λ (t : List ℕ). get_or t 0 0) e))
verdict_same Unreachable Precluded e = absurd (omega (arith, ap (λ (t : List ℕ). get_or t 0 0) e))
verdict_same Unreachable Needed e = absurd (omega (arith, ap (λ (t : List ℕ). get_or t 0 0) e))
verdict_same Unreachable Unsupported e = absurd (omega (arith, ap (λ (t : List ℕ). get_or t 0 0) e))
verdict_same Unreachable Unreachable e = refl

pub end_same : (x y : End) → IsEnd x → IsEnd y → end_fields x ≡ end_fields y → x ≡ y
end_same x y hx hy e =
    let cx = code_in x.code x.outcome hx.outcome in
    let cy = code_in y.code y.outcome hy.outcome in
    let code = signed_decimal_injective x.code y.code (code_small x.code cx) (code_small y.code cy) (ap (at 0) e) in
    let fetch = fetch_same x.fetch y.fetch hx.fetch hy.fetch (ap (at 1) e) in
    let rest = body_same x.body y.body (notes_field x.notes) (notes_field y.notes) hx.body hy.body (ap (drop 2) e) in
    let notes = notes_same x.notes y.notes hx.notes hy.notes rest.1 in
    let some : Some x.outcome ≡ Some y.outcome = sym hx.outcome ∙ (ap outcome_of code ∙ hy.outcome) in
    let outcome : x.outcome ≡ y.outcome = cc in
    λ i. record { outcome = outcome i; code = code i; fetch = fetch i; body = rest.0 i; notes = notes i }

pub line_same : (l m : Line) → IsLine l → IsLine m → fields_of l ≡ fields_of m → l ≡ m
line_same (Session time job format) (Session time' job' format') hl hm e =
    let time = decimal_injective time time' (omega (arith, hl.0)) (omega (arith, hm.0)) (ap (at 1) e) in
    let job : job ≡ job' = ap (at 2) e in
    let format = decimal_injective format format' (omega (arith, hl.1.numbered)) (omega (arith, hm.1.numbered)) (ap (at 3) e) in
    cc
line_same (Session time job format) (Seeds time') hl hm e = absurd (omega (arith, ap first_byte e, ap second_byte e))
line_same (Session time job format) (Seed uri') hl hm e = absurd (omega (arith, ap first_byte e, ap second_byte e))
line_same (Session time job format) (Add item') hl hm e = absurd (omega (arith, ap first_byte e, ap second_byte e))
line_same (Session time job format) (Emit time' caller' ticket' verdict' item') hl hm e = absurd (omega (arith, ap first_byte e, ap second_byte e))
line_same (Session time job format) (Finish time' caller' ticket' item' end') hl hm e = absurd (let t = end_tag end'.outcome (drop 1 (fields_of (Finish time' caller' ticket' item' end'))) in omega (arith, t.0, t.1, t.2, ap first_byte e, ap second_byte e))
line_same (Seeds time) (Session time' job' format') hl hm e = absurd (omega (arith, ap first_byte e, ap second_byte e))
line_same (Seeds time) (Seeds time') hl hm e =
    let time = decimal_injective time time' (omega (arith, hl)) (omega (arith, hm)) (ap (at 1) e) in cc
line_same (Seeds time) (Seed uri') hl hm e = absurd (omega (arith, ap first_byte e, ap second_byte e))
line_same (Seeds time) (Add item') hl hm e = absurd (omega (arith, ap first_byte e, ap second_byte e))
line_same (Seeds time) (Emit time' caller' ticket' verdict' item') hl hm e = absurd (omega (arith, ap first_byte e, ap second_byte e))
line_same (Seeds time) (Finish time' caller' ticket' item' end') hl hm e = absurd (let t = end_tag end'.outcome (drop 1 (fields_of (Finish time' caller' ticket' item' end'))) in omega (arith, t.0, t.1, t.2, ap first_byte e, ap second_byte e))
line_same (Seed uri) (Session time' job' format') hl hm e = absurd (omega (arith, ap first_byte e, ap second_byte e))
line_same (Seed uri) (Seeds time') hl hm e = absurd (omega (arith, ap first_byte e, ap second_byte e))
line_same (Seed uri) (Seed uri') hl hm e = ap Seed (ap (at 1) e)
line_same (Seed uri) (Add item') hl hm e = absurd (omega (arith, ap first_byte e, ap second_byte e))
line_same (Seed uri) (Emit time' caller' ticket' verdict' item') hl hm e = absurd (omega (arith, ap first_byte e, ap second_byte e))
line_same (Seed uri) (Finish time' caller' ticket' item' end') hl hm e = absurd (let t = end_tag end'.outcome (drop 1 (fields_of (Finish time' caller' ticket' item' end'))) in omega (arith, t.0, t.1, t.2, ap first_byte e, ap second_byte e))
line_same (Add item) (Session time' job' format') hl hm e = absurd (omega (arith, ap first_byte e, ap second_byte e))
line_same (Add item) (Seeds time') hl hm e = absurd (omega (arith, ap first_byte e, ap second_byte e))
line_same (Add item) (Seed uri') hl hm e = absurd (omega (arith, ap first_byte e, ap second_byte e))
line_same (Add item) (Add item') hl hm e = ap Add (item_same item item' hl.named hm.named (ap (at 1) e) (ap (at 2) e) (ap (at 3) e))
line_same (Add item) (Emit time' caller' ticket' verdict' item') hl hm e = absurd (omega (arith, ap first_byte e, ap second_byte e))
line_same (Add item) (Finish time' caller' ticket' item' end') hl hm e = absurd (let t = end_tag end'.outcome (drop 1 (fields_of (Finish time' caller' ticket' item' end'))) in omega (arith, t.0, t.1, t.2, ap first_byte e, ap second_byte e))
line_same (Emit time caller ticket verdict item) (Session time' job' format') hl hm e = absurd (omega (arith, ap first_byte e, ap second_byte e))
line_same (Emit time caller ticket verdict item) (Seeds time') hl hm e = absurd (omega (arith, ap first_byte e, ap second_byte e))
line_same (Emit time caller ticket verdict item) (Seed uri') hl hm e = absurd (omega (arith, ap first_byte e, ap second_byte e))
line_same (Emit time caller ticket verdict item) (Add item') hl hm e = absurd (omega (arith, ap first_byte e, ap second_byte e))
line_same (Emit time caller ticket verdict item) (Emit time' caller' ticket' verdict' item') hl hm e =
    let item = item_same item item' hl.1 hm.1 (ap (at 1) e) (ap (at 2) e) (ap (at 3) e) in
    let time = decimal_injective time time' (omega (arith, hl.0.in_time)) (omega (arith, hm.0.in_time)) (ap (at 4) e) in
    let caller = decimal_injective caller caller' (omega (arith, hl.0.among_callers)) (omega (arith, hm.0.among_callers)) (ap (at 5) e) in
    let ticket = decimal_injective ticket ticket' hl.0.in_range hm.0.in_range (ap (at 6) e) in
    let last = verdict_same verdict verdict' (ap (at 7) e) in
    cc
line_same (Emit time caller ticket verdict item) (Finish time' caller' ticket' item' end') hl hm e = absurd (let t = end_tag end'.outcome (drop 1 (fields_of (Finish time' caller' ticket' item' end'))) in omega (arith, t.0, t.1, t.2, ap first_byte e, ap second_byte e))
line_same (Finish time caller ticket item end) (Session time' job' format') hl hm e = absurd (let t = end_tag end.outcome (drop 1 (fields_of (Finish time caller ticket item end))) in omega (arith, t.0, t.1, t.2, ap first_byte e, ap second_byte e))
line_same (Finish time caller ticket item end) (Seeds time') hl hm e = absurd (let t = end_tag end.outcome (drop 1 (fields_of (Finish time caller ticket item end))) in omega (arith, t.0, t.1, t.2, ap first_byte e, ap second_byte e))
line_same (Finish time caller ticket item end) (Seed uri') hl hm e = absurd (let t = end_tag end.outcome (drop 1 (fields_of (Finish time caller ticket item end))) in omega (arith, t.0, t.1, t.2, ap first_byte e, ap second_byte e))
line_same (Finish time caller ticket item end) (Add item') hl hm e = absurd (let t = end_tag end.outcome (drop 1 (fields_of (Finish time caller ticket item end))) in omega (arith, t.0, t.1, t.2, ap first_byte e, ap second_byte e))
line_same (Finish time caller ticket item end) (Emit time' caller' ticket' verdict' item') hl hm e = absurd (let t = end_tag end.outcome (drop 1 (fields_of (Finish time caller ticket item end))) in omega (arith, t.0, t.1, t.2, ap first_byte e, ap second_byte e))
line_same (Finish time caller ticket item end) (Finish time' caller' ticket' item' end') hl hm e =
    let item = item_same item item' hl.1 hm.1 (ap (at 1) e) (ap (at 2) e) (ap (at 3) e) in
    let time = decimal_injective time time' (omega (arith, hl.0.in_time)) (omega (arith, hm.0.in_time)) (ap (at 4) e) in
    let caller = decimal_injective caller caller' (omega (arith, hl.0.among_callers)) (omega (arith, hm.0.among_callers)) (ap (at 5) e) in
    let ticket = decimal_injective ticket ticket' hl.0.in_range hm.0.in_range (ap (at 6) e) in
    let last = end_same end end' hl.2 hm.2 (ap (drop 7) e) in
    cc

-- a line has a tag
some_field : (l : Line) → 0 < length (fields_of l)
some_field (Session time job format) = omega arith
some_field (Seeds time) = omega arith
some_field (Seed uri) = omega arith
some_field (Add item) = omega arith
some_field (Emit time caller ticket verdict item) = omega arith
some_field (Finish time caller ticket item end) = omega arith

free_fields : (mark : ℕ) (fields : List (List ℕ)) → is_visible mark ≡ false → AllByRecursion AreVisible fields → AllByRecursion (IsFree mark) fields
free_fields mark [] hidden all = tt
free_fields mark (field ∷ fields) hidden all = (free_from_visible mark field hidden all.0, free_fields mark fields hidden all.1)

free_joined : (fields : List (List ℕ)) → AllByRecursion AreVisible fields → IsFree 10 (join_with_byte 32 fields)
free_joined [] all = All-nil (λ y. eqb y 10 ≡ false)
free_joined (a ∷ []) all = free_from_visible 10 a refl all.0
free_joined (a ∷ b ∷ fields) all =
    free_append 10 a (32 ∷ join_with_byte 32 (b ∷ fields)) (free_from_visible 10 a refl all.0)
    (All-cons (λ y. eqb y 10 ≡ false) 32 (join_with_byte 32 (b ∷ fields)) refl (free_joined (b ∷ fields) all.1))

joined_fields : (fields : List (List ℕ)) → 0 < length fields → AllByRecursion AreVisible fields → cells 32 (join_with_byte 32 fields) ≡ fields
joined_fields [] some all = absurd (omega arith)
joined_fields (a ∷ fields) some all =
    let free = free_fields 32 (a ∷ fields) refl all in
    joined_cells 32 a fields free.0 free.1

-- the fields of a line are the parts of its text
pub line_cells : (l : Line) → IsLine l → cells 32 (join_with_byte 32 (fields_of l)) ≡ fields_of l
line_cells l is = joined_fields (fields_of l) (some_field l) (fields_visible l is)

-- a line and what follows, cut at line feeds
pub text_cells : (l : Line) (rest : List ℕ) → IsLine l → cells 10 (text_of l ++ rest) ≡ join_with_byte 32 (fields_of l) ∷ cells 10 rest
text_cells l rest is =
    ap (cells 10) (append_assoc (join_with_byte 32 (fields_of l)) (10 ∷ []) rest)
    ∙ slice_split_at (λ b. eqb b 10) (join_with_byte 32 (fields_of l)) 10 rest (free_joined (fields_of l) (fields_visible l is)) refl

pub uncut : (a b : List ℕ) → cells 10 a ≡ cells 10 b → a ≡ b
uncut a b e = sym (join_with_byte-slice_split 10 a) ∙ (ap (join_with_byte 10) e ∙ join_with_byte-slice_split 10 b)

pub no_line : (m : Line) (rest : List ℕ) → [] ≡ text_of m ++ rest → ⊥
no_line m rest e =
    omega (arith, ap length e, length-append (text_of m) rest, length-append (join_with_byte 32 (fields_of m)) (10 ∷ []))

-- lines with one joined text are the same lines
pub lines_same : (ls ms : List Line) → AllByRecursion IsLine ls → AllByRecursion IsLine ms → flat_map text_of ls ≡ flat_map text_of ms → ls ≡ ms
lines_same [] [] hl hm e = refl
lines_same [] (m ∷ ms) hl hm e = absurd (no_line m (flat_map text_of ms) e)
lines_same (l ∷ ls) [] hl hm e = absurd (no_line l (flat_map text_of ls) (sym e))
lines_same (l ∷ ls) (m ∷ ms) hl hm e =
    let cut : join_with_byte 32 (fields_of l) ∷ cells 10 (flat_map text_of ls) ≡ join_with_byte 32 (fields_of m) ∷ cells 10 (flat_map text_of ms) =
    sym (text_cells l (flat_map text_of ls) hl.0) ∙ (ap (cells 10) e ∙ text_cells m (flat_map text_of ms) hm.0) in
    let one : join_with_byte 32 (fields_of l) ≡ join_with_byte 32 (fields_of m) = cc in
    let others : cells 10 (flat_map text_of ls) ≡ cells 10 (flat_map text_of ms) = cc in
    let first = line_same l m hl.0 hm.0 (sym (line_cells l hl.0) ∙ (ap (cells 32) one ∙ line_cells m hm.0)) in
    let more = lines_same ls ms hl.1 hm.1 (uncut _ _ others) in
    cc
