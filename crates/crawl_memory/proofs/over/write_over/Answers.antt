use Rattle.std.proofs.Common.{◌∙◌, ap, List, ℕ, ◌+◌, ◌++◌, length, take, drop, arith}
use Rattle.crawl_memory.proofs.Written.{written_whole}
use Rattle.crawl_memory.proofs.over.write_over.Goals as goal

pub returns-clause-ok : goal.returns-clause-ok
returns-clause-ok c =
    written_whole c.args.at c.reach.new.bytes.len c.args.from.now c.args.bytes.now.items c.reach.new.bytes.items c.put.new.bytes c.in_ok-reach.ensures.ok
    (c.put.ensures ∙ ap (λ (l : List ℕ). take c.args.at l ++ c.args.from.now ++ drop (c.args.at + length c.args.from.now) l) c.deref_mut.ensures.value)
    (omega (arith, c.deref_mut.ensures.len)) (omega (arith, c.put.auto.bytes, ap length c.deref_mut.ensures.value))
