use Rattle.std.proofs.Common.{◌∙◌, sym, subst}
use Rattle.gate_log.specs.Blocks.{IsBody}
use Rattle.recover_journal.proofs.BlockLists.{lines_some}
use Rattle.recover_journal.proofs.journal.Journal.block.Goals as goal

pub of-requires : goal.of-requires
of-requires c =
    subst IsBody (sym (c.deref.ensures.value ∙ c.in_ok-body.ensures))
    (record { not_empty = lines_some c.args.events.now c.requires.some; no_longer = c.requires.short })
