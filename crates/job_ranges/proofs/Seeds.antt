-- A text has no more seeds than seed lines.
use Rattle.std.proofs.Common.{ℕ, ◌+◌, ◌≤◌, List, [], ◌∷◌, length, Option, Some, None, arith}
use Rattle.std.specs.Prelude.{count_by, filter}
use Rattle.std.specs.List.{cons_option, filter_map}
use Rattle.std.proofs.lemmas.List.Sums.{length-filter}
use Rattle.seed_list.specs.Lines.{is_seed_line}
use Rattle.seed_list.specs.Seeds.{seed_of, seeds_in}

one_more : {Y : Type 0} (o : Option Y) (ys : List Y) → length (cons_option o ys) ≤ length ys + 1
one_more None ys = omega arith
one_more (Some y) ys = omega arith

length-filter_map : {X Y : Type 0} (h : X → Option Y) (xs : List X) → length (filter_map h xs) ≤ length xs
length-filter_map h [] = omega arith
length-filter_map h (x ∷ xs) = omega (arith, one_more (h x) (filter_map h xs), length-filter_map h xs)

pub seeds_of_lines : (all : List (List ℕ)) → length (seeds_in all) ≤ count_by is_seed_line all
unfolding seeds_in
seeds_of_lines all = omega (arith, length-filter_map seed_of (filter is_seed_line all), length-filter is_seed_line all)
