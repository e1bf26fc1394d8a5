-- An address is visible, and reads as itself.
use Rattle.crawl_kinds.specs.Text.{is_visible}
use Rattle.journal_read.proofs.Texts.{all_from_text}
use Rattle.journal_read.proofs.text.address_of.Goals as goal

pub returns-in_default : goal.returns-in_default
returns-in_default c t is = c.in_default.ensures (all_from_text is_visible 2083 c.args.bytes.now is.1.visible)
