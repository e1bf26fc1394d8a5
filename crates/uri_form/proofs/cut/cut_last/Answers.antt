use Rattle.uri_form.proofs.Cuts.{last_cut}
use Rattle.uri_form.proofs.cut.cut_last.Goals as goal

pub returns-clause-parts : goal.returns-clause-parts
returns-clause-parts c = last_cut c.args.mark c.args.text.now _ c.rsplit_once.ensures.cases c.requires
