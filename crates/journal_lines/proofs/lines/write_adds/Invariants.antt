use Rattle.std.proofs.Common.{◌≡◌, ◌++◌, take, flat_map}
use Rattle.journal_spec.specs.Journal.{add_line}
use Rattle.journal_lines.proofs.lines.write_adds.Given as goal

abbrev pub invariant-loop-item : goal.invariant-loop-item
invariant-loop-item l = l.into.items ≡ l.initial.into.items ++ flat_map add_line (take l.item-index l.adds)
