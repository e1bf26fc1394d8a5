use Rattle.std.proofs.Common.{◌≡◌, ◌-◌, length, take, drop}
use Rattle.std.proofs.lemmas.List.{take_rest}
use Rattle.seed_list.proofs.Trims.{trimmed_is}
use Rattle.seed_list.proofs.line.trimmed.Goals as goal

pub returns : goal.returns
returns c =
    let line = c.args.line.now in
    let n = c.blanks_before.result in
    let rest = take (length line - n) (drop n line) in
    let whole : rest ≡ drop n line = rw take_rest in
    trimmed_is line rest n c.blanks_behind.result c.blanks_before.ensures.count whole c.blanks_behind.ensures.count
