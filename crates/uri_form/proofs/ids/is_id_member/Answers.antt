use Rattle.std.proofs.Common.{None, sym, arith}
use Rattle.std.proofs.lemmas.Str.Pattern.{split_once_first}
use Rattle.uri_form.proofs.IdLaws.{is_id_member-unnamed}
use Rattle.uri_form.proofs.ids.is_id_member.Goals as goal

pub returns-in-None : goal.returns-in-None
returns-in-None c =
    let member = c.args.member.now in
    sym (is_id_member-unnamed member (split_once_first 61 member None c.in-None.ensures.cases (omega arith)))
