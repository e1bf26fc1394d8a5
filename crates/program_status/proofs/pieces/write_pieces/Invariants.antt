use Rattle.std.proofs.Common.{◌≡◌, ◌≤◌, ◌++◌, take, IsTrue}
use Rattle.std.specs.List.{flat_map}
use Rattle.program_status.proofs.pieces.write_pieces.Given as goal

abbrev pub invariant-loop-piece : goal.invariant-loop-piece
invariant-loop-piece g l = record {
  so_far : IsTrue (g.W.Sink.tells l.fn.out) → g.W.Sink.written l.out ≡ g.W.Sink.written l.fn.out ++ flat_map (λ p. p.now) (take l.piece-index l.pieces);
  told : g.W.Sink.tells l.out ≡ g.W.Sink.tells l.fn.out;
  later : g.W.Sink.faults l.fn.out ≤ g.W.Sink.faults l.out;
}
