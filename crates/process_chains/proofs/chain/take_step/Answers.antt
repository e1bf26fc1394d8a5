use Rattle.process_chains.proofs.Drafting.{any_err, begun_by}
use Rattle.process_chains.proofs.chain.take_step.Goals as goal

pub returns-in-FindLinks-clause-begun : goal.returns-in-FindLinks-clause-begun
returns-in-FindLinks-clause-begun g c start is tells =
    any_err c.find_links.result _ (begun_by g.L.Link (g.C.Clock.gives c.args.clock.now) c.args.settings.now c.args.work.now start c.args.link.now c.args.draft is tells)
