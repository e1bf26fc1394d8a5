use Rattle.std.proofs.Common.{◌∙◌, arith, ◌+◌, length, IsTrue, length-drop, length-take, ◌-◌, drop}
use Rattle.crawl_traits.proofs.Pieces.{written_more}
use Rattle.crawl_traits.proofs.whole.write_whole.Goals as goal

pub returns-in-Err-clause-err : goal.returns-in-Err-clause-err
returns-in-Err-clause-err g c = λ told.
    let so_far = c.loop-at.invariant.so_far told in
    let told1 : IsTrue (g.W.Sink.tells c.loop-at.out) = c.loop-at.invariant.told ∙ told in
    let some = c.in-Err.ensures.err told1 in (
      c.loop-at.at + some.0,
      omega (arith, some.1, c.loop-at.invariant.within, length-drop c.loop-at.at c.args.text.now, length-take (length c.args.text.now - c.loop-at.at) (drop c.loop-at.at c.args.text.now)),
      written_more _ _ _ c.args.text.now c.loop-at.at some.0 so_far some.2,
    )

pub loop-at-preserved : goal.loop-at-preserved
loop-at-preserved g c = record {
  within = omega (arith, c.in-Ok.ensures.within, length-drop c.loop-at.at c.args.text.now, length-take (length c.args.text.now - c.loop-at.at) (drop c.loop-at.at c.args.text.now));
  so_far = λ told.
      let told1 : IsTrue (g.W.Sink.tells c.loop-at.out) = c.loop-at.invariant.told ∙ told in
      written_more _ _ _ c.args.text.now c.loop-at.at c.in-Ok.n (c.loop-at.invariant.so_far told) (c.in-Ok.ensures.bytes told1);
  told = c.in-Ok.ensures.tells ∙ c.loop-at.invariant.told;
  later = omega (arith, c.in-Ok.ensures.cause.later, c.loop-at.invariant.later);
}
