use Rattle.std.proofs.Common.{◌≡◌, ◌<◌, take}
use Rattle.std.specs.Prelude.{IfSome}
use Rattle.journal_valid.specs.Items.{robots_redirects}
use Rattle.item_form.proofs.item.robots_redirects.Given as goal

abbrev pub invariant-loop-letter : goal.invariant-loop-letter
invariant-loop-letter l =
    (l.redirects ≡ robots_redirects (take l.letter-index l.path)) × IfSome l.redirects (λ j. j < l.letter-index)
