use Rattle.std.proofs.Common.{◌≡◌, ◌≤◌, ◌++◌, ◌∷◌, [], take, IsTrue}
use Rattle.std.specs.List.{flat_map}
use Rattle.program_status.specs.Status.{printed_byte}
use Rattle.program_status.proofs.pieces.write_name.Given as goal

abbrev pub invariant-loop-byte : goal.invariant-loop-byte
invariant-loop-byte g l = record {
  so_far : IsTrue (g.W.Sink.tells l.fn.out) → g.W.Sink.written l.out ≡ g.W.Sink.written l.fn.out ++ flat_map (λ b. printed_byte b ∷ []) (take l.byte-index l.name);
  told : g.W.Sink.tells l.out ≡ g.W.Sink.tells l.fn.out;
  later : g.W.Sink.faults l.fn.out ≤ g.W.Sink.faults l.out;
}
