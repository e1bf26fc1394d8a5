use Rattle.std.proofs.Common.{◌≡◌, ◌+◌, ◌<◌, ◌≤◌, List, [], ◌∷◌, ◌++◌, length, length-append, ap, sym, ◌∙◌, subst, arith}
use Rattle.turn_client.specs.declared.part.Part.{Part}
use Rattle.turn_client.specs.Rows.{AreDealt}
use Rattle.turn_client.proofs.Dealing.{dealt_snoc}
use Rattle.turn_client.proofs.callers.deal_all.Goals as goal

pub loop-preserved : goal.loop-preserved
loop-preserved c = let i = c.loop.invariant in let parts : List Part = c.loop.parts.items in let part : Part = c.deal.result in let more : c.loop.counter < c.args.callers = c.loop-test.true in
    let id = c.args.tally.now.lock.table.shared.table_id in
    let items : c.push.new.self.items ≡ parts ++ part ∷ [] = c.in_ok-push.ensures.items in
    let long : length c.push.new.self.items ≡ length parts + 1 = ap length items ∙ length-append parts (part ∷ []) in
    let kept = c.deal.ensures.kept in let dealt = c.deal.ensures.dealt in let some = c.requires.some in
    let first = kept.0 in let end = kept.1 in let made = kept.2 in let left = kept.3 in let d0 = dealt.0 in let d1 = dealt.1 in let d3 = dealt.3 in let few = some.1 in
    let i_first = i.first in let i_end = i.end in let i_left = i.left in let i_count = i.count in
    record {
      own = c.deal.ensures.own.0;
      first = first ∙ i_first;
      end = omega arith;
      made = made ∙ i.made;
      left = omega arith;
      count = omega arith;
      dealt = subst (AreDealt id c.args.callers 0 1099511627776) (sym items) (dealt_snoc id c.args.callers 0 1099511627776 parts part i.dealt
          (c.deal.ensures.own.1, (omega arith, omega arith, λ _. omega arith, λ is. absurd (omega arith)), (dealt.2, omega arith)));
    }

pub returns : goal.returns
returns c = let i = c.loop.invariant in let parts : List Part = c.loop.parts.items in let part : Part = c.loop.first in let done : c.args.callers ≤ c.loop.counter = c.loop-test.false in
    let id = c.args.tally.now.lock.table.shared.table_id in
    let items : c.push-2.new.self.items ≡ parts ++ part ∷ [] = c.in_ok-push-2.ensures.items in
    let long : length c.push-2.new.self.items ≡ length parts + 1 = ap length items ∙ length-append parts (part ∷ []) in
    let some = c.requires.some in let few = some.1 in let far = c.loop.auto.counter-end in
    let i_first = i.first in let i_end = i.end in let i_left = i.left in let i_count = i.count in (
      omega arith,
      subst (AreDealt id c.args.callers 0 1099511627776) (sym items) (dealt_snoc id c.args.callers 0 1099511627776 parts part i.dealt
          (i.own, (omega arith, omega arith, λ is. absurd (omega arith), λ _. i_first), (i.made, omega arith))),
    )
