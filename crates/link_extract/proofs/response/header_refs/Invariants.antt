use Rattle.std.proofs.Common.{◌≡◌, map, take}
use Rattle.link_spec.specs.Words.{reference}
use Rattle.extract_spec.specs.Links.{redirect}
use Rattle.link_extract.proofs.response.header_refs.Given as goal

abbrev pub invariant-loop-value : goal.invariant-loop-value
invariant-loop-value l = l.refs ≡ map (reference redirect) (take l.value-index l.value-items)
