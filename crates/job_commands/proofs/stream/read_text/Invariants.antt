use Rattle.std.proofs.Common.{◌≡◌, ◌≤◌, ◌++◌, ◌-◌, IsTrue, vec_len}
use Rattle.job_commands.proofs.stream.read_text.Given as goal

abbrev pub invariant-loop-piece : goal.invariant-loop-piece
invariant-loop-piece g l = record {
  so_far : IsTrue (g.S.Source.tells l.fn.source) → g.S.Source.left l.fn.source ≡ l.text.items ++ g.S.Source.left l.source;
  told : g.S.Source.tells l.source ≡ g.S.Source.tells l.fn.source;
  later : g.S.Source.faults l.fn.source ≤ g.S.Source.faults l.source;
}

abbrev pub decreases-loop-piece : goal.decreases-loop-piece
decreases-loop-piece g l = 1048577 - vec_len l.text
