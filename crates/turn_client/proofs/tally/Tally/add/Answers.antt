use Rattle.std.proofs.Common.{ℕ, ◌+◌, ◌<◌, ◌≤◌, ap, sym, ◌∙◌, subst, refl, arith}
use Rattle.turn_lock.specs.Plays.{Has}
use Rattle.turn_client.specs.Shares.{highest, more}
use Rattle.turn_client.proofs.Tallies.{shows, advances}
use Rattle.turn_client.proofs.tally.Tally.add.Goals as goal

pub know-requires-clause-rule : goal.know-requires-clause-rule
know-requires-clause-rule g c = shows _ _ _

pub raise-requires-clause-held : goal.raise-requires-clause-held
raise-requires-clause-held g c = let part = c.args.part.now in let h = c.take.ensures.held in let x : ℕ = h.0 in
    let told = c.know.ensures.told x x h.1 in
    let room : x + part.left ≤ highest = subst (λ v. x + v.left ≤ highest) (c.take.ensures.same.1 ∙ part.knows) told.1 in let some_left = c.requires.room in
    (x, subst (λ m. Has m x x) (sym c.know.ensures.same.1) h.1, omega arith)

pub count-requires-clause-held : goal.count-requires-clause-held
count-requires-clause-held g c = let part = c.args.part.now in let h = c.take.ensures.held in let x : ℕ = h.0 in
    let known = ap (λ d. d.client) c.raise.ensures.same.1 ∙ ap (λ m. m.0.client) c.know.ensures.same.1 ∙ c.take.ensures.same.1 ∙ part.knows in (
      x,
      x + 1,
      c.raise.ensures.raised x (subst (λ m. Has m x x) (sym c.know.ensures.same.1) h.1),
      refl,
      advances _ _ _ x (subst (λ v. v.first < v.end) (sym known) c.requires.may) (subst (λ v. 0 < v.left) (sym known) c.requires.room),
    )

pub serve-requires-clause-held : goal.serve-requires-clause-held
serve-requires-clause-held g c = let h = c.take.ensures.held in let x : ℕ = h.0 in
    let raised = c.raise.ensures.raised x (subst (λ m. Has m x x) (sym c.know.ensures.same.1) h.1) in
    (x + 1, (c.count.ensures.counted x (x + 1) raised).0)

pub overflow_add-part : goal.overflow_add-part
overflow_add-part g c = let part = c.args.part.now in let h = c.take.ensures.held in let x : ℕ = h.0 in
    let told = c.know.ensures.told x x h.1 in let known = c.take.ensures.same.1 ∙ part.knows in
    let small : part.made ≤ x = subst (λ v. v.made ≤ x) known told.0 in
    let room : x + part.left ≤ highest = subst (λ v. x + v.left ≤ highest) known told.1 in let some_left = c.requires.room in omega arith

pub invariant_of-part : goal.invariant_of-part
invariant_of-part g c = let part = c.args.part.now in let h = c.take.ensures.held in let x : ℕ = h.0 in
    let raised = c.raise.ensures.raised x (subst (λ m. Has m x x) (sym c.know.ensures.same.1) h.1) in
    let counted = c.count.ensures.counted x (x + 1) raised in
    let known = ap (λ d. d.client) c.raise.ensures.same.1 ∙ ap (λ m. m.0.client) c.know.ensures.same.1 ∙ c.take.ensures.same.1 ∙ part.knows in
    record { idle = c.serve.ensures.idle; knows = c.serve.ensures.same.1 ∙ counted.1 ∙ ap more known }
