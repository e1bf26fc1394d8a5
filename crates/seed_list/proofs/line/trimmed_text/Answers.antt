use Rattle.std.proofs.Common.{◌≡◌, ℕ, ◌-◌, List, length, take, drop, ap, ◌∙◌, arith}
use Rattle.std.specs.List.{prefix_len, suffix_len}
use Rattle.seed_list.specs.Lines.{is_blank}
use Rattle.seed_list.proofs.Trims.{boundary_from, boundary_to, trimmed_is}
use Rattle.seed_list.proofs.line.trimmed_text.Goals as goal

pub range_from-rest-requires : goal.range_from-rest-requires
range_from-rest-requires c = λ _.
    boundary_from c.args.line.now c.blanks_before.result c.utf8.line
    (c.blanks_before.ensures.count ∙ ap (λ (l : List ℕ). prefix_len is_blank l) c.as_bytes.ensures.value)

pub range-requires-clause-end_boundary : goal.range-requires-clause-end_boundary
range-requires-clause-end_boundary c =
    boundary_to c.range_from-rest.result.now c.blanks_behind.result
    (c.blanks_behind.ensures.count ∙ ap (λ (l : List ℕ). suffix_len is_blank l) c.as_bytes-2.ensures.value)

pub returns : goal.returns
returns c =
    let line = c.args.line.now in
    let rest = c.range_from-rest.result.now in
    let n = c.blanks_before.result in
    let whole : rest ≡ drop n line = c.range_from-rest.ensures.value in
    let end = length rest - c.blanks_behind.result in
    let front : end - 0 ≡ end = omega arith in
    c.range.ensures.value ∙ ap (λ (k : ℕ). take k rest) front ∙ trimmed_is line rest n c.blanks_behind.result
    (c.blanks_before.ensures.count ∙ ap (λ (l : List ℕ). prefix_len is_blank l) c.as_bytes.ensures.value) whole
    (c.blanks_behind.ensures.count ∙ ap (λ (l : List ℕ). suffix_len is_blank l) c.as_bytes-2.ensures.value)
