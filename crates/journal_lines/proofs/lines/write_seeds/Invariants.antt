use Rattle.std.proofs.Common.{◌≡◌, ◌++◌, take, flat_map}
use Rattle.journal_spec.specs.Journal.{seed_line}
use Rattle.journal_lines.proofs.lines.write_seeds.Given as goal

abbrev pub invariant-loop-uri : goal.invariant-loop-uri
invariant-loop-uri l = l.into.items ≡ l.initial.into.items ++ flat_map seed_line (take l.uri-index l.list)
