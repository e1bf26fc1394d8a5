use Rattle.std.proofs.Common.{◌≡◌, ◌<◌, ℕ, List, length, take, true, false, ◌∙◌, arith, ap, sym, length-take}
use Rattle.std.specs.Prelude.{nat_lt}
use Rattle.crawl_traits.specs.Exchanges.{giving, with_last}
use Rattle.http_fetch.proofs.Last.{take-take, is_below}
use Rattle.http_fetch.proofs.receive.receive_rest.Goals as goal

pub returns-then-filled-total-clause-given : goal.returns-then-filled-total-clause-given
returns-then-filled-total-clause-given g c = λ told xs base.
    let front : List ℕ = c.args.front.now in
    let old : List ℕ = c.as_mut_slice.result.now in
    let new : List ℕ = c.read_rest.new.buffer in
    let m = c.in-Ok-read_rest.filled in
    let begins : take (length front) old ≡ front = ap (take (length front)) c.as_mut_slice.ensures.value ∙ c.in-Ok.ensures.front in
    let e = c.in-Ok-read_rest.ensures.given told xs (base ∙ ap (λ b. with_last (giving b false) xs) (sym begins)) in
    let lens : m < length new = omega (arith, c.if-filled-total.true, c.in-Ok.ensures.len, c.as_mut_slice.ensures.len, c.read_rest.auto.buffer) in
    let short : nat_lt m (length new) ≡ true = is_below m (length new) lens in (
      take m new,
      e ∙ ap (λ b. with_last (giving (take m new) b) xs) short,
      (
        omega (arith, length-take m new, c.if-filled-total.true),
        take-take (length front) m new c.in-Ok-read_rest.ensures.more ∙ c.in-Ok-read_rest.ensures.front ∙ begins,
      ),
    )
