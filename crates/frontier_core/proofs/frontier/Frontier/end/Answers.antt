use Rattle.std.proofs.Common.{◌≡◌, Option, Some, refl, sym, ◌∙◌, ap, subst}
use Rattle.frontier_core.specs.Core.{Core, robots_at, with_event}
use Rattle.frontier_core.specs.Standing.{EndsWith}
use Rattle.frontier_core.specs.declared.robots.KeptRobots.{KeptRobots}
use Rattle.frontier_core.proofs.Standing.{back_again, same_core, same_robots}
use Rattle.frontier_core.proofs.frontier.Frontier.end.Goals as goal
use Rattle.frontier_memo.specs.Sums.{class_at}
use Rattle.frontier_memo.proofs.Maps.{written}

pub returns-in-Err-clause-err : goal.returns-in-Err-clause-err
returns-in-Err-clause-err c =
    let own : Core = record { settings = c.self.inside.settings; scope = c.self.inside.scope; events = c.self.inside.events.items; robots = c.self.inside.robots.entries } in
    let over : Core = record { settings = c.self.inside.settings; scope = c.self.inside.scope; events = c.self.inside.events.items; robots = c.insert.new.self.entries } in
    let left : Core = record { settings = c.self-2.inside.settings; scope = c.self-2.inside.scope; events = c.self-2.inside.events.items; robots = c.self-2.inside.robots.entries } in
    let after : Core = record { settings = c.self-2.inside.settings; scope = c.self-2.inside.scope; events = c.self-2.inside.events.items; robots = c.put_back.new.robots.entries } in
    let same : left ≡ over = c.self-2.view_is ∙ c.in-Err.ensures.err in
    let was : c.in_ok-before.before ≡ class_at c.self.inside.robots c.args.class.now = c.in_ok-before.ensures.old ∙ ap (class_at c.self.inside.robots) c.in_ok-copy.ensures in
    same_core after own (ap (λ (core : Core). core.settings) same) (ap (λ (core : Core). core.scope) same) (ap (λ (core : Core). core.events) same)
    (same_robots c.put_back.new.robots c.self.inside.robots c.put_back.ensures.ordered c.in_ok-before.ensures.was_ordered
    (λ q.
    back_again c.self.inside.robots c.args.class.now q c.in_ok-before.before (class_at c.self-2.inside.robots q) (class_at c.put_back.new.robots q) c.in-Some.kept was
    (ap (λ (core : Core). robots_at core q) same ∙ written c.self.inside.robots c.insert.new.self c.in_ok-copy.field-0 c.args.class.now (Some c.in-Some.kept) c.in_ok-copy.ensures c.in_ok-before.ensures.updates q)
    (c.put_back.ensures.back q)))
    ∙ c.self.view_is

pub returns-clause-ok : goal.returns-clause-ok
returns-clause-ok c =
    let own : Core = record { settings = c.self.inside.settings; scope = c.self.inside.scope; events = c.self.inside.events.items; robots = c.self.inside.robots.entries } in
    let over : Core = record { settings = c.self.inside.settings; scope = c.self.inside.scope; events = c.self.inside.events.items; robots = c.insert.new.self.entries } in
    let ends : EndsWith own (with_event over c.args.event) c.args.event c.args.class.now (Some c.in-Some.kept) = record {
      events = refl;
      settings = refl;
      scope = refl;
      robots = λ q. written c.self.inside.robots c.insert.new.self c.in_ok-copy.field-0 c.args.class.now (Some c.in-Some.kept) c.in_ok-copy.ensures c.in_ok-before.ensures.updates q;
    } in
    subst (λ (o : Option KeptRobots). EndsWith c.args.self.now c.record-2.new.self c.args.event c.args.class.now o) (sym c.in-Some.is)
    (subst (λ (core : Core). EndsWith c.args.self.now core c.args.event c.args.class.now (Some c.in-Some.kept)) (sym c.in_default-record.ensures.ok)
    (subst (λ (core : Core). EndsWith core (with_event over c.args.event) c.args.event c.args.class.now (Some c.in-Some.kept)) c.self.view_is ends))
