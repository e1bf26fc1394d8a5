use Rattle.std.proofs.Common.{◌≡◌, Some, map, take}
use Rattle.toml.specs.View.{view}
use Rattle.job_spec.specs.Values.{all_given}
use Rattle.job_order.proofs.list.list_of.Given as goal

abbrev pub invariant-loop-value : goal.invariant-loop-value
invariant-loop-value g l = all_given (map g.T.Element.reads (map view (take l.value-index l.values))) ≡ Some l.list
