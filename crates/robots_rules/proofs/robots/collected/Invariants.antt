use Rattle.std.proofs.Common.{◌≡◌, length}
use Rattle.std.specs.List.{slice_split}
use Rattle.robots_spec.specs.Lines.{is_line_end}
use Rattle.robots_rules.specs.Reading.{after_all, read_by}
use Rattle.robots_rules.proofs.robots.collected.Given as goal

abbrev pub invariant-loop-rest : goal.invariant-loop-rest
invariant-loop-rest l = after_all l.agent l.collector (slice_split is_line_end l.rest) ≡ read_by l.agent l.text

abbrev pub decreases-loop-rest : goal.decreases-loop-rest
decreases-loop-rest l = length l.rest
