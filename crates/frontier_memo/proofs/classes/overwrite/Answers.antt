use Rattle.std.proofs.Common.{sym, ◌∙◌, ap, rules}
use Rattle.std.specs.Prelude.{option_map, bytes_eq, if◌then◌else◌}
use Rattle.frontier_memo.specs.Sums.{class_at}
use Rattle.frontier_memo.proofs.Maps.{overwritten}
use Rattle.frontier_memo.proofs.classes.overwrite.Goals as goal

pub returns-clause-written : goal.returns-clause-written
returns-clause-written g c q =
    overwritten c.args.map.now (c.get_mut.follows.lender c.replace.new.dest) c.args.key.now c.in_ok-kept.kept.now c.replace.new.dest
    (sym c.in_ok-kept.ensures.value) ((c.get_mut.follows.holds c.replace.new.dest).3 (search rules)) q
    ∙ ap (λ w. if bytes_eq c.args.key.now q then option_map (λ _. w) (class_at c.args.map.now q) else class_at c.args.map.now q) c.replace.ensures.after
