use Rattle.std.proofs.Common.{◌≡◌, true, false, sym, ◌∙◌, ap, drop, arith}
use Rattle.link_spec.specs.Tags.{ends_raw}
use Rattle.html_links.proofs.Walks.{walk-more, walk-here, walk-end}
use Rattle.html_links.proofs.segments.raw_len.Goals as goal

pub loop-len-preserved : goal.loop-len-preserved
loop-len-preserved c =
    let fails : ends_raw c.args.word.now (drop c.loop-len.len c.args.text.now) ≡ false = sym (ap (ends_raw c.args.word.now) c.from.ensures) ∙ sym c.ends_raw.ensures ∙ c.if-ends_raw.false in
    record { within = omega arith; place = walk-more (ends_raw c.args.word.now) c.args.text.now c.loop-len.len _ (omega arith) fails c.loop-len.invariant.place }

pub returns-then-ends_raw-clause-count : goal.returns-then-ends_raw-clause-count
returns-then-ends_raw-clause-count c =
    let passes : ends_raw c.args.word.now (drop c.loop-len.len c.args.text.now) ≡ true = sym (ap (ends_raw c.args.word.now) c.from.ensures) ∙ sym c.ends_raw.ensures ∙ c.if-ends_raw.true in
    walk-here (ends_raw c.args.word.now) c.args.text.now c.loop-len.len _ passes c.loop-len.invariant.place

pub returns-clause-count : goal.returns-clause-count
returns-clause-count c = walk-end (ends_raw c.args.word.now) c.args.text.now c.loop-len.len _ (omega arith) c.loop-len.invariant.place
