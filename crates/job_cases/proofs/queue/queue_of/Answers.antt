use Rattle.std.proofs.Common.{◌<◌, ◌+◌, List, ◌∷◌, All, arith, ◌∙◌}
use Rattle.std.proofs.lemmas.List.Elements.{All-cons, All-weaker}
use Rattle.std.proofs.lemmas.List.Sorted.{All-permutation}
use Rattle.host_queue.specs.Queue.{Entry, IsPut}
use Rattle.job_cases.proofs.queue.queue_of.Goals as goal

-- an entry with the next ordinal more
one_more : (e : Entry) (old new : List Entry) → IsPut e old new → All (λ x. x.1 < e.1) old → All (λ x. x.1 < e.1 + 1) new
one_more e old new put below =
    let P : Entry → Type 0 = λ x. x.1 < e.1 + 1 in
    let this : P e = omega arith in
    All-permutation P (e ∷ old) new put.same (All-cons P e old this (All-weaker (λ x. x.1 < e.1) P (λ x less. omega arith) old below))

pub loop-i-preserved : goal.loop-i-preserved
loop-i-preserved c = (
  c.in_ok-push.ensures.ok.1 ∙ c.loop-i.invariant.0,
  one_more (c.in_ok-item.field-0, c.loop-i.i) c.loop-i.queue.waiting c.push.new.self.waiting c.in_ok-push.ensures.ok.0 c.loop-i.invariant.1,
)
