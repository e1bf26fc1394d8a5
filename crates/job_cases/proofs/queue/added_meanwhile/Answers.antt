use Rattle.std.proofs.Common.{◌≢◌, ◌<◌, All, Option, sym, subst, arith, ℕ}
use Rattle.std.specs.Option.{IfSome}
use Rattle.std.proofs.lemmas.List.Elements.{All-head, All-rest, All-weaker}
use Rattle.job_cases.proofs.queue.added_meanwhile.Goals as goal

pub push-requires-clause-fresh : goal.push-requires-clause-fresh
push-requires-clause-fresh c =
    let below = All-rest (λ e. e.1 < c.args.ordinal) (c.in-Some.item, c.in-Some.at) c.take_first.new.self.waiting c.args.queue.now.waiting c.in-Some.ensures.first.0 c.requires in
    All-weaker (λ e. e.1 < c.args.ordinal) (λ e. e.1 ≢ c.args.ordinal) (λ e less same. omega arith) c.take_first.new.self.waiting below

pub push-requires-clause-apart : goal.push-requires-clause-apart
push-requires-clause-apart c =
    let first = All-head (λ e. e.1 < c.args.ordinal) (c.in-Some.item, c.in-Some.at) c.take_first.new.self.waiting (subst (λ l. All (λ e. e.1 < c.args.ordinal) l) c.in-Some.ensures.first.0 c.requires) in
    subst (λ (o : Option (ℕ × ℕ)). IfSome o (λ at. at.1 ≢ c.args.ordinal)) (sym c.in-Some.ensures.first.1) (λ same. omega arith)
