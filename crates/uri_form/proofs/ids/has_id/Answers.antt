use Rattle.std.proofs.Common.{sym}
use Rattle.uri_form.proofs.IdLaws.{has_id-short}
use Rattle.uri_form.proofs.ids.has_id.Goals as goal

pub returns-then-part-lt43 : goal.returns-then-part-lt43
returns-then-part-lt43 c = sym (has_id-short c.args.part.now c.if-part-lt43.true)
