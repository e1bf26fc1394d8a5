use Rattle.std.proofs.Common.{◌∙◌, arith}
use Rattle.program_status.proofs.Fronts.{front_of}
use Rattle.program_status.proofs.pieces.write_pieces.Goals as goal

pub returns-in-Err : goal.returns-in-Err
returns-in-Err g c = record {
  ok = λ told. tt;
  err = λ told.
      let front = c.in-Err.ensures.err (c.loop-piece.invariant.told ∙ told) in
      front_of (λ p. p.now) c.args.pieces.now c.loop-piece.piece-index _ front.0 _ _ _ c.loop-piece-test.true front.1 (c.loop-piece.invariant.so_far told) front.2;
  tells = c.in-Err.ensures.tells ∙ c.loop-piece.invariant.told;
  cause = record {
    later = omega (arith, c.in-Err.ensures.cause.later, c.loop-piece.invariant.later);
    failed = omega (arith, c.in-Err.ensures.cause.failed, c.loop-piece.invariant.later);
  };
}
