-- Reading on by one line.
use Rattle.std.proofs.Common.{◌≡◌, ◌⊎◌, inl, inr, ℕ, ◌<◌, ◌≤◌, List, [], length, take, drop, sym, ◌∙◌, ap, arith}
use Rattle.std.specs.List.{slice_split, position_or_len}
use Rattle.std.proofs.lemmas.Bool.{cases_lt}
use Rattle.std.proofs.lemmas.List.{drop-drop, drop_all, take_all}
use Rattle.std.proofs.lemmas.List.Sums.{fails_before_first}
use Rattle.std.proofs.lemmas.List.Splits.{slice_split_first, slice_split_none}
use Rattle.robots_spec.specs.Lines.{is_line_end, line_of}
use Rattle.robots_rules.specs.declared.collector.Collector.{Collector}
use Rattle.robots_rules.specs.Reading.{after, after_all}

-- what is left behind the next line end, or behind all
abbrev left : List ℕ → List ℕ
left xs = drop 1 (drop (position_or_len is_line_end xs) xs)

split-more : (agent : List ℕ) (c : Collector) (xs : List ℕ) → position_or_len is_line_end xs < length xs → after_all agent c (slice_split is_line_end xs) ≡ after_all agent (after agent c (line_of (take (position_or_len is_line_end xs) xs))) (slice_split is_line_end (left xs))
split-more agent c xs h =
    ap (λ lines. after_all agent c lines) (slice_split_first is_line_end xs 0 h)
    ∙ ap (λ rest. after_all agent (after agent c (line_of (take (position_or_len is_line_end xs) xs))) (slice_split is_line_end rest)) (sym (drop-drop 1 (position_or_len is_line_end xs) xs))

-- an empty line says nothing
split-last : (agent : List ℕ) (c : Collector) (xs : List ℕ) → length xs ≤ position_or_len is_line_end xs → after_all agent c (slice_split is_line_end xs) ≡ after_all agent (after agent c (line_of (take (position_or_len is_line_end xs) xs))) (slice_split is_line_end (left xs))
split-last agent c xs h =
    let whole = take_all (position_or_len is_line_end xs) xs h in
    let nothing : left xs ≡ [] = ap (λ ys. drop 1 ys) (drop_all (position_or_len is_line_end xs) xs h) in
    ap (λ lines. after_all agent c lines) (slice_split_none is_line_end xs (λ k d within. fails_before_first is_line_end xs k d (omega arith)))
    ∙ ap (λ line. after agent c (line_of line)) (sym whole)
    ∙ ap (λ rest. after_all agent (after agent c (line_of (take (position_or_len is_line_end xs) xs))) (slice_split is_line_end rest)) (sym nothing)

by_place : (agent : List ℕ) (c : Collector) (xs : List ℕ) → (position_or_len is_line_end xs < length xs) ⊎ (length xs ≤ position_or_len is_line_end xs) → after_all agent c (slice_split is_line_end xs) ≡ after_all agent (after agent c (line_of (take (position_or_len is_line_end xs) xs))) (slice_split is_line_end (left xs))
by_place agent c xs (inl h) = split-more agent c xs h
by_place agent c xs (inr h) = split-last agent c xs h

pub read-more : (agent : List ℕ) (c : Collector) (xs : List ℕ) → after_all agent c (slice_split is_line_end xs) ≡ after_all agent (after agent c (line_of (take (position_or_len is_line_end xs) xs))) (slice_split is_line_end (drop 1 (drop (position_or_len is_line_end xs) xs)))
read-more agent c xs = by_place agent c xs (cases_lt (position_or_len is_line_end xs) (length xs))
