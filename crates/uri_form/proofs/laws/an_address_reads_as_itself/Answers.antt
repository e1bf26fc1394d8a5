use Rattle.uri_form.proofs.AddressLaws.{reads_as_itself}
use Rattle.uri_form.proofs.laws.an_address_reads_as_itself.Goals as goal

pub returns : goal.returns
returns c = reads_as_itself c.args.uri.now c.requires
