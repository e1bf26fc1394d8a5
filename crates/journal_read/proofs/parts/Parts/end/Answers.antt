-- Where a part is left, the list of parts is not empty.
use Rattle.std.proofs.Common.{refl, ◌∙◌, sym}
use Rattle.std.proofs.lemmas.Bool.{cond-true}
use Rattle.journal_read.proofs.Cells.{cells_some}
use Rattle.journal_read.proofs.parts.Parts.end.Goals as goal

pub returns-then-self : goal.returns-then-self
returns-then-self c =
    (λ none. cells_some c.args.self.now.mark c.args.self.now.rest.now (sym (cond-true _ _ _ c.if-self.true) ∙ none), refl)
