use Rattle.std.proofs.Common.{◌≡◌, ℕ, List, ◌∷◌, ap, sym, ◌∙◌}
use Rattle.std.specs.Prelude.{codes}
use Rattle.journal_read.specs.Reading.{cells, left}
use Rattle.journal_read.proofs.Follows.{follows_text}
use Rattle.journal_read.proofs.reader.read_next.Goals as goal

pub returns-then-is_same : goal.returns-then-is_same
returns-then-is_same c =
    let mid = left c.next.new.self in
    let cut : cells 32 c.args.text.now ≡ c.in_ok-tag.tag.now ∷ mid = sym c.of-parts.ensures ∙ c.in_ok-tag.ensures in
    follows_text c.args.text.now (codes "F+") mid c.args.events.now.items c.read_add.new.events.items c.read_add.result (cut ∙ ap (λ (t : List ℕ). t ∷ mid) c.if-is_same.ensures) c.read_add.ensures

pub returns : goal.returns
returns c =
    let mid = left c.next.new.self in
    let cut : cells 32 c.args.text.now ≡ c.in_ok-tag.tag.now ∷ mid = sym c.of-parts.ensures ∙ c.in_ok-tag.ensures in
    follows_text c.args.text.now c.in_ok-tag.tag.now mid c.args.events.now.items c.read_other.new.events.items c.read_other.result cut c.read_other.ensures
