use Rattle.std.proofs.Common.{◌≡◌, ◌++◌, drop}
use Rattle.link_spec.specs.Elements.{attribute_refs}
use Rattle.html_links.proofs.elements.push_attributes.Given as goal

abbrev pub invariant-loop-attribute : goal.invariant-loop-attribute
invariant-loop-attribute l = l.refs ++ attribute_refs l.element l.attributes (drop l.attribute-index l.attributes) ≡ l.fn.refs ++ attribute_refs l.element l.attributes l.attributes
