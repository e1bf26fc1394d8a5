use Rattle.std.proofs.Common.{sym, ◌∙◌}
use Rattle.std.proofs.lemmas.List.{drop-drop}
use Rattle.uri_form.proofs.IdLaws.{boundary_behind_id}
use Rattle.uri_form.proofs.ids.after_id.Goals as goal

pub range_from-requires : goal.range_from-requires
range_from-requires c = λ positive. boundary_behind_id c.args.part.now c.utf8.part c.requires

pub returns : goal.returns
returns c = c.range_from.ensures.value ∙ sym (drop-drop 32 11 c.args.part.now)
