-- Letter by letter; a count is below the number of letters.
use Rattle.std.proofs.Common.{ℕ, ◌+◌, ◌<◌, ◌≤◌, Option, Some, None, get_or, take, sym, ap, subst, ◌∙◌, arith}
use Rattle.std.specs.Prelude.{IfSome}
use Rattle.std.proofs.lemmas.List.{take_more}
use Rattle.journal_valid.specs.Items.{robots_redirects}
use Rattle.item_form.specs.Items.{redirects_after}
use Rattle.item_form.proofs.Redirects.{redirects_push, more_le}
use Rattle.item_form.proofs.item.robots_redirects.Goals as goal

below : (o : Option ℕ) (n m : ℕ) → n ≤ m → IfSome o (λ j. j < n) → IfSome o (λ j. j < m)
below None n m le h = tt
below (Some j) n m le h = omega arith

pub redirects_after-redirects-requires : goal.redirects_after-redirects-requires
redirects_after-redirects-requires c = below c.loop-letter.redirects c.loop-letter.letter-index 250 (omega arith) c.loop-letter.invariant.1

pub loop-letter-preserved : goal.loop-letter-preserved
loop-letter-preserved c =
    let path = c.args.path.now in
    let i = c.loop-letter.letter-index in (
      c.redirects_after-redirects.ensures ∙ (ap (redirects_after (get_or path i 0)) c.loop-letter.invariant.0 ∙ (sym (redirects_push (take i path) (get_or path i 0)) ∙ ap robots_redirects (sym (take_more path i 0 c.loop-letter-test.true)))),
      subst (λ o. IfSome o (λ j. j < i + 1)) (sym c.redirects_after-redirects.ensures) (more_le (get_or path i 0) i c.loop-letter.redirects c.loop-letter.invariant.1),
    )
