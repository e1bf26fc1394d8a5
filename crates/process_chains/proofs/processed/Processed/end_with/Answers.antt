use Rattle.std.proofs.Common.{◌∙◌, ap, subst, sym}
use Rattle.crawl_kinds.specs.declared.event.End.{End}
use Rattle.crawl_history.specs.Ends.{Suits}
use Rattle.journal_valid.specs.Ends.{IsEnd}
use Rattle.process_chains.specs.Done.{Done, IsDone}
use Rattle.process_chains.specs.Endings.{end_with}
use Rattle.process_chains.proofs.processed.Processed.end_with.Goals as goal

pub returns-clause-suits : goal.returns-clause-suits
returns-clause-suits c f a same is =
    let it : Done = c.args.self.now in
    let done : IsDone it = subst (λ (d : Done). IsDone d) c.self.view_is c.self.invariant in
    subst (λ (e : End). Suits f a it.work.tries it.work.item e it.work.verdict) (sym (c.end_of.ensures ∙ ap (λ (d : Done). end_with d.ending c.args.body) c.self.view_is))
    (done.suits f a c.args.body same is)

pub returns-clause-valid : goal.returns-clause-valid
returns-clause-valid c first one fits =
    let it : Done = c.args.self.now in
    let done : IsDone it = subst (λ (d : Done). IsDone d) c.self.view_is c.self.invariant in
    subst (λ (e : End). IsEnd e) (sym (c.end_of.ensures ∙ ap (λ (d : Done). end_with d.ending c.args.body) c.self.view_is)) (done.valid first c.args.body one fits)
