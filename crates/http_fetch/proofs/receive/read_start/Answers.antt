use Rattle.std.proofs.Common.{◌≡◌, ◌+◌, ℕ, List, take, IsTrue, false, ◌∙◌, arith, ap, sym, refl}
use Rattle.std.specs.Prelude.{nat_eq}
use Rattle.crawl_traits.specs.Exchanges.{giving, with_last}
use Rattle.http_fetch.proofs.Last.{read_on, given_nothing, end_not_come}
use Rattle.http_fetch.proofs.receive.read_start.Goals as goal

pub pieces-init : goal.pieces-init
pieces-init g c = record {
  within = omega arith;
  so_far = λ told. sym (given_nothing _);
  told = refl;
  open_ = λ told. refl;
  later = λ fault. omega arith;
}

pub returns-in-Some-clause-given : goal.returns-in-Some-clause-given
returns-in-Some-clause-given g c = λ told.
    let told1 : IsTrue (g.L.Link.tells c.pieces.link) = c.pieces.invariant.told ∙ told in
    read_on c.pieces.buffer c.read_more.new.buffer c.pieces.filled c.in-Ok.n (nat_eq c.in-Ok.n 0) _ _ _ c.in-Ok.ensures.front (c.pieces.invariant.so_far told) (c.in-Ok.ensures.given told1)

pub pieces-preserved : goal.pieces-preserved
pieces-preserved g c = record {
  within = omega (arith, c.in-Ok.ensures.within);
  so_far = λ told.
      let told1 : IsTrue (g.L.Link.tells c.pieces.link) = c.pieces.invariant.told ∙ told in
      let new : List ℕ = c.read_more.new.buffer in
      let at = c.pieces.filled in
      let n = c.in-Ok.n in
      let more : nat_eq n 0 ≡ false = end_not_come n c.if-ended-2.false in
      read_on c.pieces.buffer new at n (nat_eq n 0) _ _ _ c.in-Ok.ensures.front (c.pieces.invariant.so_far told) (c.in-Ok.ensures.given told1)
      ∙ ap (λ b. with_last (giving (take (at + n) new) b) (g.L.Link.exchanges c.args.link.now)) more;
  told = c.in-Ok.ensures.tells ∙ c.pieces.invariant.told;
  open_ = λ told.
      let told1 : IsTrue (g.L.Link.tells c.pieces.link) = c.pieces.invariant.told ∙ told in
      c.in-Ok.ensures.connected told1 ∙ c.pieces.invariant.open_ told;
  later = λ fault. omega (arith, c.in-Ok.ensures.cause.later fault, c.pieces.invariant.later fault);
}
