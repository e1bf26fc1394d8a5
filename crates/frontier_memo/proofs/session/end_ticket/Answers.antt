use Rattle.std.proofs.Common.{not, ◌==◌, rules}
use Rattle.std.proofs.lemmas.Fn.{filter_same}
use Rattle.frontier_memo.specs.declared.session.Out.{Out}
use Rattle.frontier_memo.proofs.session.end_ticket.Goals as goal

pub returns : goal.returns
returns c = filter_same _ (λ (o : Out). not (c.args.ticket == o.ticket)) _ (λ x b f h. (search rules, search rules)) _ _ c.retain.ensures.filtered
