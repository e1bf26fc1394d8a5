use Rattle.std.proofs.Common.{◌++◌, ◌∷◌, [], ℕ, take, ◌∙◌, ap, arith}
use Rattle.program_status.specs.Status.{printed_byte}
use Rattle.program_status.proofs.Fronts.{front_of}
use Rattle.program_status.proofs.pieces.write_name.Goals as goal

pub returns-in-Err : goal.returns-in-Err
returns-in-Err g c = record {
  ok = λ told. tt;
  err = λ told.
      let front = c.in-Err.ensures.err (c.loop-byte.invariant.told ∙ told) in
      front_of (λ b. printed_byte b ∷ []) c.args.name.now c.loop-byte.byte-index 0 front.0 _ _ _ c.loop-byte-test.true front.1 (c.loop-byte.invariant.so_far told) (front.2 ∙ ap (λ (b : ℕ). g.W.Sink.written c.loop-byte.out ++ take front.0 (b ∷ [])) c.printed_byte.ensures);
  tells = c.in-Err.ensures.tells ∙ c.loop-byte.invariant.told;
  cause = record {
    later = omega (arith, c.in-Err.ensures.cause.later, c.loop-byte.invariant.later);
    failed = omega (arith, c.in-Err.ensures.cause.failed, c.loop-byte.invariant.later);
  };
}
