use Rattle.std.proofs.Common.{◌≡◌, ◌≤◌, All, length, take}
use Rattle.extract_spec.specs.Links.{most_links}
use Rattle.link_extract.specs.Words.{HasAddress}
use Rattle.link_extract.specs.Growing.{with_refs}
use Rattle.link_extract.proofs.response.take_refs.Given as goal

abbrev pub invariant-loop-reference : goal.invariant-loop-reference
invariant-loop-reference l = record {
  few : length l.links ≤ most_links;
  links : l.links ≡ with_refs l.initial.links l.base (take l.reference-index l.refs);
  addresses : All HasAddress l.initial.links → All HasAddress l.links;
}
