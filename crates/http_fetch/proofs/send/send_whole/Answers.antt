use Rattle.std.proofs.Common.{◌∙◌, arith, ◌+◌, length, IsTrue, length-drop, length-take, ◌-◌, drop, refl, sym}
use Rattle.http_fetch.proofs.Last.{sent_more, taken_nothing}
use Rattle.http_fetch.proofs.send.send_whole.Goals as goal

pub loop-at-init : goal.loop-at-init
loop-at-init g c = record {
  within = omega arith;
  so_far = λ told. sym (taken_nothing _);
  told = refl;
  open_ = λ told. refl;
  later = λ fault. omega arith;
}

pub returns-then-n-eq0-clause-err : goal.returns-then-n-eq0-clause-err
returns-then-n-eq0-clause-err g c = λ told.
    let told1 : IsTrue (g.L.Link.tells c.loop-at.link) = c.loop-at.invariant.told ∙ told in (
      c.loop-at.at + c.in-Ok.n,
      omega (arith, c.in-Ok.ensures.within, length-drop c.loop-at.at c.args.text.now, length-take (length c.args.text.now - c.loop-at.at) (drop c.loop-at.at c.args.text.now)),
      sent_more c.args.text.now c.loop-at.at c.in-Ok.n _ _ _ (c.loop-at.invariant.so_far told) (c.in-Ok.ensures.taken told1),
    )

pub loop-at-preserved : goal.loop-at-preserved
loop-at-preserved g c = record {
  within = omega (arith, c.in-Ok.ensures.within, length-drop c.loop-at.at c.args.text.now, length-take (length c.args.text.now - c.loop-at.at) (drop c.loop-at.at c.args.text.now));
  so_far = λ told.
      let told1 : IsTrue (g.L.Link.tells c.loop-at.link) = c.loop-at.invariant.told ∙ told in
      sent_more c.args.text.now c.loop-at.at c.in-Ok.n _ _ _ (c.loop-at.invariant.so_far told) (c.in-Ok.ensures.taken told1);
  told = c.in-Ok.ensures.tells ∙ c.loop-at.invariant.told;
  open_ = λ told.
      let told1 : IsTrue (g.L.Link.tells c.loop-at.link) = c.loop-at.invariant.told ∙ told in
      c.in-Ok.ensures.connected told1 ∙ c.loop-at.invariant.open_ told;
  later = λ fault. omega (arith, c.in-Ok.ensures.cause.later fault, c.loop-at.invariant.later fault);
}
