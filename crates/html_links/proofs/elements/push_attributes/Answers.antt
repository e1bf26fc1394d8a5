use Rattle.std.proofs.Common.{◌≡◌, arith}
use Rattle.link_spec.specs.Elements.{refs_by, role_of}
use Rattle.html_links.proofs.Roles.{refs-next, refs-all}
use Rattle.html_links.proofs.elements.push_attributes.Goals as goal

pub loop-attribute-preserved : goal.loop-attribute-preserved
loop-attribute-preserved c =
    let all = c.args.attributes.now in
    let x = c.attribute-item.result in
    let more : refs_by c.role_of-role.result all c.as_slice.result.now ≡ refs_by (role_of c.args.element x.name) all x.value = λ i. refs_by (c.role_of-role.ensures i) all (c.as_slice.ensures i) in
    rw c.in_ok-push_by.ensures (refs-next c.args.element all all c.loop-attribute.attribute-index x c.loop-attribute.refs _ (refs_by c.role_of-role.result all c.as_slice.result.now) (omega arith) c.attribute-item.is more c.loop-attribute.invariant)

pub returns : goal.returns
returns c = refs-all c.args.element c.args.attributes.now c.args.attributes.now c.loop-attribute.attribute-index c.loop-attribute.refs _ (omega arith) c.loop-attribute.invariant
