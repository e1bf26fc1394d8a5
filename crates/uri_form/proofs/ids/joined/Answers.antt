use Rattle.std.proofs.Common.{None, arith}
use Rattle.std.proofs.lemmas.Str.Pattern.{strip_prefix_char}
use Rattle.uri_form.proofs.ids.joined.Goals as goal

pub returns-in-None-clause-some : goal.returns-in-None-clause-some
returns-in-None-clause-some c = λ rest begins. absurd (strip_prefix_char 38 c.args.members.now None c.in-None.ensures.cases (omega arith) rest begins)
