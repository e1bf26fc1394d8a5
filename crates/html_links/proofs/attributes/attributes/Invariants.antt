use Rattle.std.proofs.Common.{◌≡◌, ◌+◌, ◌≤◌, ◌<◌, length, fold}
use Rattle.link_spec.specs.Cut.{given}
use Rattle.link_spec.specs.Attributes.{attribute_at, attributes_of, attributes_size, with_one}
use Rattle.html_links.proofs.attributes.attributes.Given as goal

abbrev pub invariant-loop-rest : goal.invariant-loop-rest
invariant-loop-rest l = record {
  list : fold with_one l.list (given attribute_at l.rest) ≡ attributes_of l.text;
  size : l.size + attributes_size l.rest ≡ attributes_size l.text;
  whole : l.size ≤ length l.text + 1;
  within : 0 < length l.rest → l.size + length l.rest ≤ length l.text;
}

abbrev pub decreases-loop-rest : goal.decreases-loop-rest
decreases-loop-rest l = length l.rest
