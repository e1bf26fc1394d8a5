-- The worked examples, computed.
use Rattle.std.proofs.Common.{refl}
use Rattle.regex_hir.specs.Find.{find_str, first_from}
use Rattle.regex_hir.specs.Re.{attempt, rounds}
use Rattle.regex_hir.specs.Text.{is_boundary, has_bytes_at}
use Rattle.regex.proofs.OnLiterals.{regex_on_literals}
use Rattle.scope_spec.specs.Worked.{AreWorked}
use Rattle.scope_spec.specs.WorkedPatterns.{ArePatternsWorked}

pub worked : AreWorked
worked = record {
  twenty = refl;
  twenty_decided = refl;
  more = refl;
  more_decided = refl;
  other = refl;
  other_decided = refl;
  none = refl;
  no_rules = refl;
  by_seeds = refl;
  without_seeds = refl;
  scheme = refl;
  path = refl;
  bracketed = refl;
  schemes = refl;
  listed = refl;
  slashes = refl;
  few_slashes = refl;
  run = refl;
  short_run = refl;
  empty_run = refl;
  no_run_allowed = refl;
  no_segment = refl;
  embed = refl;
  too_many = refl;
  link = refl;
  seed = refl;
  no_link = refl;
  speculative = refl;
}

pub worked_patterns : ArePatternsWorked
unfolding regex_on_literals find_str first_from attempt rounds is_boundary has_bytes_at
worked_patterns = record {
  unclosed = refl;
  empty = refl;
  large = refl;
  found = refl;
  not_found = refl;
  anywhere = refl;
  second = refl;
  none = refl;
  accepted = refl;
}
