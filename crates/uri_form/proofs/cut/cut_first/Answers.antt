use Rattle.uri_form.proofs.Cuts.{first_cut}
use Rattle.uri_form.proofs.cut.cut_first.Goals as goal

pub returns-clause-parts : goal.returns-clause-parts
returns-clause-parts c = first_cut c.args.mark c.args.text.now _ c.split_once.ensures.cases c.requires
