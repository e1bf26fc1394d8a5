use Rattle.std.proofs.Common.{◌≡◌, true, false, sym, ◌∙◌, ap, drop, arith}
use Rattle.std.specs.Prelude.{codes}
use Rattle.link_spec.specs.Words.{begins}
use Rattle.html_links.proofs.Walks.{walk-more, walk-here, walk-end}
use Rattle.html_links.proofs.elements.url_place.Goals as goal

pub loop-len-preserved : goal.loop-len-preserved
loop-len-preserved c =
    let fails : begins (codes "url=") (drop c.loop-len.len c.args.text.now) ≡ false = sym (ap (begins (codes "url=")) c.from.ensures) ∙ sym c.begins.ensures ∙ c.if-begins.false in
    record { within = omega arith; place = walk-more (begins (codes "url=")) c.args.text.now c.loop-len.len _ (omega arith) fails c.loop-len.invariant.place }

pub returns-then-begins-clause-place : goal.returns-then-begins-clause-place
returns-then-begins-clause-place c =
    let passes : begins (codes "url=") (drop c.loop-len.len c.args.text.now) ≡ true = sym (ap (begins (codes "url=")) c.from.ensures) ∙ sym c.begins.ensures ∙ c.if-begins.true in
    walk-here (begins (codes "url=")) c.args.text.now c.loop-len.len _ passes c.loop-len.invariant.place

pub returns-clause-place : goal.returns-clause-place
returns-clause-place c = walk-end (begins (codes "url=")) c.args.text.now c.loop-len.len _ (omega arith) c.loop-len.invariant.place
