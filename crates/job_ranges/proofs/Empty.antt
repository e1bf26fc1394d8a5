-- The empty text is no job: its table is empty, and lacks a name.
use Rattle.std.proofs.Common.{◌≡◌, ℕ, ◌≤◌, List, [], ◌∷◌, length, Some, None, refl, sym, ap, ◌∙◌, arith}
use Rattle.std.specs.Prelude.{codes}
use Rattle.toml.specs.Data.{Members, no_members}
use Rattle.toml.specs.Parse.{parse_document}
use Rattle.toml.proofs.OnLiterals.{toml_on_literals}
use Rattle.job_spec.specs.Missing.{is_missing, missing_name}
use Rattle.job_spec.specs.Settings.{setting_name}

empty_reads : parse_document [] ≡ Some no_members
unfolding toml_on_literals
empty_reads = refl

empty_lacks : missing_name no_members ≡ Some (codes "name")
unfolding missing_name is_missing setting_name
empty_lacks = refl

pub not_empty : (bytes : List ℕ) (m : Members) → parse_document bytes ≡ Some m → missing_name m ≡ None → 1 ≤ length bytes
not_empty [] m reads complete =
    let both : Some no_members ≡ Some m = sym empty_reads ∙ reads in
    let same : no_members ≡ m = cc in
    let none : Some (codes "name") ≡ None = sym empty_lacks ∙ ap missing_name same ∙ complete in
    absurd cc
not_empty (b ∷ rest) m reads complete = omega arith
