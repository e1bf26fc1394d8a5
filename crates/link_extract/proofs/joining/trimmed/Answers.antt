use Rattle.link_extract.proofs.Blanks.{trimmed_blanks}
use Rattle.link_extract.proofs.joining.trimmed.Goals as goal

pub returns : goal.returns
returns c = trimmed_blanks c.args.text.now _ c.trim_ascii.ensures.value
