use Rattle.std.proofs.Common.{◌≡◌, ◌+◌, ℕ, List, length, take, IsTrue, ◌∙◌, arith, ap, sym}
use Rattle.std.specs.Prelude.{nat_eq, nat_lt}
use Rattle.crawl_traits.specs.Exchanges.{giving, with_last}
use Rattle.http_fetch.proofs.Last.{read_on, take_less, end_came, end_not_come, is_below}
use Rattle.http_fetch.proofs.receive.read_rest.Goals as goal

pub returns-then-n-eq0-clause-given : goal.returns-then-n-eq0-clause-given
returns-then-n-eq0-clause-given g c = λ told xs base.
    let told1 : IsTrue (g.L.Link.tells c.pieces.link) = c.pieces.invariant.told ∙ told in
    let new : List ℕ = c.read_more.new.buffer in
    let at = c.pieces.filled in
    let n = c.in-Ok.n in
    let e = read_on c.pieces.buffer new at n (nat_eq n 0) xs _ _ c.in-Ok.ensures.front (c.pieces.invariant.so_far told xs base) (c.in-Ok.ensures.given told1) in
    let count : at + n ≡ at = omega (arith, c.if-n-eq0.true) in
    let short : nat_lt at (length new) ≡ nat_eq n 0 = is_below at (length new) (omega (arith, c.pieces-test.true, c.read_more.auto.buffer)) ∙ sym (end_came n c.if-n-eq0.true) in
    e ∙ ap (λ k. with_last (giving (take k new) (nat_eq n 0)) xs) count ∙ ap (λ b. with_last (giving (take at new) b) xs) (sym short)

pub returns-then-n-eq0-clause-front : goal.returns-then-n-eq0-clause-front
returns-then-n-eq0-clause-front g c =
    take_less c.read_more.new.buffer c.pieces.buffer c.args.came c.pieces.filled c.pieces.invariant.from c.in-Ok.ensures.front ∙ c.pieces.invariant.front

pub pieces-preserved : goal.pieces-preserved
pieces-preserved g c = record {
  within = omega (arith, c.in-Ok.ensures.within);
  from = omega (arith, c.pieces.invariant.from);
  front = take_less c.read_more.new.buffer c.pieces.buffer c.args.came c.pieces.filled c.pieces.invariant.from c.in-Ok.ensures.front ∙ c.pieces.invariant.front;
  so_far = λ told xs base.
      let told1 : IsTrue (g.L.Link.tells c.pieces.link) = c.pieces.invariant.told ∙ told in
      let new : List ℕ = c.read_more.new.buffer in
      let at = c.pieces.filled in
      let n = c.in-Ok.n in
      read_on c.pieces.buffer new at n (nat_eq n 0) xs _ _ c.in-Ok.ensures.front (c.pieces.invariant.so_far told xs base) (c.in-Ok.ensures.given told1)
      ∙ ap (λ b. with_last (giving (take (at + n) new) b) xs) (end_not_come n c.if-n-eq0.false);
  told = c.in-Ok.ensures.tells ∙ c.pieces.invariant.told;
  open_ = λ told.
      let told1 : IsTrue (g.L.Link.tells c.pieces.link) = c.pieces.invariant.told ∙ told in
      c.in-Ok.ensures.connected told1 ∙ c.pieces.invariant.open_ told;
  later = λ fault. omega (arith, c.in-Ok.ensures.cause.later fault, c.pieces.invariant.later fault);
}
