use Rattle.std.proofs.Common.{◌≡◌, Some, None, sym, ◌∙◌}
use Rattle.std.proofs.lemmas.List.Elements.{All-push, All-same}
use Rattle.extract_spec.specs.Joining.{linked}
use Rattle.link_extract.specs.Words.{HasAddress}
use Rattle.link_extract.proofs.Growing.{with_found, with_no}
use Rattle.link_extract.proofs.response.take_ref.Goals as goal

pub returns-in_ok-push-clause-links : goal.returns-in_ok-push-clause-links
returns-in_ok-push-clause-links c =
    let found : linked c.args.base.now c.args.reference.now ≡ Some c.in-Some.found = sym c.in_ok-found.ensures.same ∙ c.in-Some.is in
    c.in_ok-push.ensures.ok ∙ with_found c.args.links.now c.args.base.now c.args.reference.now c.in-Some.found found c.requires

pub returns-in_ok-push-clause-addresses : goal.returns-in_ok-push-clause-addresses
returns-in_ok-push-clause-addresses c = λ all.
    let address = rw c.in-Some.is at c.in_ok-found.ensures.address in
    All-same HasAddress _ _ c.in_ok-push.ensures.ok (All-push HasAddress c.args.links.now c.in-Some.found all address)

pub returns-in_default-clause-links : goal.returns-in_default-clause-links
returns-in_default-clause-links c =
    let none : linked c.args.base.now c.args.reference.now ≡ None = sym c.in_ok-found.ensures.same ∙ c.in_default.is in
    with_no c.args.links.now c.args.base.now c.args.reference.now none c.requires
