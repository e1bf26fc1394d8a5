use Rattle.std.proofs.Common.{◌∙◌, sym, subst}
use Rattle.std.proofs.lemmas.List.Sorted.{IsPermutation-sym}
use Rattle.host_queue.specs.Queue.{IsInOrder}
use Rattle.host_queue.proofs.Members.{one_order}
use Rattle.job_cases.proofs.queue.out_and_back.Goals as goal

pub returns-in-Some : goal.returns-in-Some
returns-in-Some c =
    let put = c.put_back.ensures.put in
    let was = c.in-Some.ensures.first.0 in
    one_order _ _ put.ordered (subst (λ l. IsInOrder l) was c.in-Some.ensures.ordered.0) (IsPermutation-sym _ _ put.same)
    ∙ sym was
