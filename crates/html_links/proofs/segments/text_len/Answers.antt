use Rattle.std.proofs.Common.{◌≡◌, true, false, sym, ◌∙◌, ap, drop, arith}
use Rattle.link_spec.specs.Segments.{begins_segment}
use Rattle.html_links.proofs.Walks.{walk-more, walk-here, walk-end}
use Rattle.html_links.proofs.segments.text_len.Goals as goal

pub loop-len-preserved : goal.loop-len-preserved
loop-len-preserved c =
    let fails : begins_segment (drop c.loop-len.len c.args.text.now) ≡ false = sym (ap (begins_segment) c.from.ensures) ∙ sym c.begins_segment.ensures ∙ c.if-begins_segment.false in
    record { within = omega arith; place = walk-more (begins_segment) c.args.text.now c.loop-len.len _ (omega arith) fails c.loop-len.invariant.place }

pub returns-then-begins_segment-clause-count : goal.returns-then-begins_segment-clause-count
returns-then-begins_segment-clause-count c =
    let passes : begins_segment (drop c.loop-len.len c.args.text.now) ≡ true = sym (ap (begins_segment) c.from.ensures) ∙ sym c.begins_segment.ensures ∙ c.if-begins_segment.true in
    walk-here (begins_segment) c.args.text.now c.loop-len.len _ passes c.loop-len.invariant.place

pub returns-clause-count : goal.returns-clause-count
returns-clause-count c = walk-end (begins_segment) c.args.text.now c.loop-len.len _ (omega arith) c.loop-len.invariant.place
