use Rattle.std.proofs.Common.{◌≡◌, ◌++◌, length}
use Rattle.link_spec.specs.Segments.{start_tags}
use Rattle.link_spec.specs.Elements.{html_base, html_refs}
use Rattle.html_links.specs.Words.{base_of, or_first, refs_of}
use Rattle.html_links.proofs.page.html_refs.Given as goal

abbrev pub invariant-loop-rest : goal.invariant-loop-rest
invariant-loop-rest l = record {
  refs : l.page.refs ++ refs_of (start_tags l.rest) ≡ html_refs l.payload;
  base : or_first l.page.base (base_of (start_tags l.rest)) ≡ html_base l.payload;
}

abbrev pub decreases-loop-rest : goal.decreases-loop-rest
decreases-loop-rest l = length l.rest
