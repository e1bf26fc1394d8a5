use Rattle.std.proofs.Common.{◌≡◌, true, false, sym, ◌∙◌, ap, drop, arith}
use Rattle.link_spec.specs.Segments.{ends_comment}
use Rattle.html_links.proofs.Walks.{walk-more, walk-here, walk-end}
use Rattle.html_links.proofs.segments.comment_len.Goals as goal

pub loop-len-preserved : goal.loop-len-preserved
loop-len-preserved c =
    let fails : ends_comment (drop c.loop-len.len c.args.text.now) ≡ false = sym (ap (ends_comment) c.from.ensures) ∙ sym c.ends_comment.ensures ∙ c.if-ends_comment.false in
    record { within = omega arith; place = walk-more (ends_comment) c.args.text.now c.loop-len.len _ (omega arith) fails c.loop-len.invariant.place }

pub returns-then-ends_comment-clause-count : goal.returns-then-ends_comment-clause-count
returns-then-ends_comment-clause-count c =
    let passes : ends_comment (drop c.loop-len.len c.args.text.now) ≡ true = sym (ap (ends_comment) c.from.ensures) ∙ sym c.ends_comment.ensures ∙ c.if-ends_comment.true in
    walk-here (ends_comment) c.args.text.now c.loop-len.len _ passes c.loop-len.invariant.place

pub returns-clause-count : goal.returns-clause-count
returns-clause-count c = walk-end (ends_comment) c.args.text.now c.loop-len.len _ (omega arith) c.loop-len.invariant.place
