use Rattle.std.proofs.Common.{List, subst}
use Rattle.crawl_kinds.specs.declared.event.Event.{Event}
use Rattle.frontier_core.proofs.Standing.{stands_fresh}
use Rattle.frontier_memo.specs.Fits.{AllFit}
use Rattle.frontier_core.proofs.frontier.Frontier.fold.Goals as goal

pub returns-clause-stands : goal.returns-clause-stands
returns-clause-stands c none pages a =
    stands_fresh (record { settings = c.args.settings; scope = c.args.scope; events = c.args.events.items; robots = c.new.result.entries }) none c.new.ensures.empty pages a

pub returns-clause-fit : goal.returns-clause-fit
returns-clause-fit c = subst (λ (es : List Event). AllFit es) c.deref.ensures.value c.in_ok-memo.ensures.fit
