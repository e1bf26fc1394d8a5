use Rattle.std.proofs.Common.{Bool, true, false, List, [], ◌∷◌, ◌++◌, sym, ◌∙◌, ap, subst}
use Rattle.crawl_kinds.specs.declared.event.Event.{Event}
use Rattle.crawl_history.specs.History.{history_of}
use Rattle.frontier_core.specs.Core.{Core, history}
use Rattle.frontier_memo.specs.Fits.{Fits}
use Rattle.frontier_memo.specs.Memory.{Remembers}
use Rattle.frontier_memo.specs.Taking.{Takes}
use Rattle.frontier_core.proofs.frontier.Frontier.record.Goals as goal

pub invariant_of-self-in_err-take : goal.invariant_of-self-in_err-take
invariant_of-self-in_err-take c =
    subst (λ (events : List Event). Remembers (history_of events) c.take.new.self) (sym c.reserve.ensures.items)
    (c.in_err-take.ensures.err (history_of c.self.inside.events.items) c.self.invariant)

pub unreachable-requires : goal.unreachable-requires
unreachable-requires c =
    let h = history_of c.self.inside.events.items in
    let taken : Takes h c.args.event c.take.new.self false = subst (λ (b : Bool). Takes h c.args.event c.take.new.self b) c.if-not-branch.true (c.in_ok-take.ensures.taken h c.self.invariant) in
    taken (subst (λ (own : Core). Fits (history own) c.args.event) (sym c.self.view_is) c.requires)

pub invariant_of-self-2 : goal.invariant_of-self-2
invariant_of-self-2 c =
    let h = history_of c.self.inside.events.items in
    let taken : Takes h c.args.event c.take.new.self true = subst (λ (b : Bool). Takes h c.args.event c.take.new.self b) c.if-not-branch.false (c.in_ok-take.ensures.taken h c.self.invariant) in
    subst (λ (events : List Event). Remembers (history_of events) c.take.new.self)
    (sym (c.push_reserved.ensures.items ∙ ap (λ (events : List Event). events ++ c.args.event ∷ []) c.reserve.ensures.items)) taken.1
