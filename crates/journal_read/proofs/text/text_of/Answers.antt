-- Bytes that are a text of the kind are visible.
use Rattle.crawl_kinds.specs.Text.{is_visible}
use Rattle.journal_read.proofs.Texts.{all_from_text, weaker_all}
use Rattle.journal_read.proofs.text.text_of.Goals as goal

pub returns-in_default : goal.returns-in_default
returns-in_default g c t is =
    c.in_default.ensures (weaker_all g.F.TextForm.allowed is_visible c.args.bytes.now c.requires (all_from_text g.F.TextForm.allowed g.F.TextForm.most c.args.bytes.now is.1))
