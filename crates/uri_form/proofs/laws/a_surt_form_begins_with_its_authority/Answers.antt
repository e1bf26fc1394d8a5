use Rattle.uri_form.proofs.AddressLaws.{begins_with_authority}
use Rattle.uri_form.proofs.laws.a_surt_form_begins_with_its_authority.Goals as goal

pub returns : goal.returns
returns c = begins_with_authority c.args.uri.now c.requires
