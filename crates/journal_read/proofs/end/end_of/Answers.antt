use Rattle.std.proofs.Common.{w32, to_z, of_z, refl}
use Rattle.std.proofs.lemmas.Int.{to_z-of_z}
use Rattle.journal_read.proofs.Suited.{end_made, no_end}
use Rattle.journal_read.proofs.end.end_of.Goals as goal

pub returns-then-is_uncaused-is_last_failure : goal.returns-then-is_uncaused-is_last_failure
returns-then-is_uncaused-is_last_failure c x is =
    let a = c.args in
    no_end a.code (to_z w32 (of_z w32 a.code)) a.fetch a.body a.notes c.is_uncaused.result c.is_last_failure.result (to_z-of_z w32 a.code c.ranges.code) c.is_uncaused.ensures c.is_last_failure.ensures c.if-is_uncaused-is_last_failure.true x is.0

pub returns : goal.returns
returns c =
    let a = c.args in (
      end_made a.outcome a.code (to_z w32 (of_z w32 a.code)) a.fetch a.body a.notes c.is_some.result c.is_fetched.result c.is_some-2.result c.is_status.result c.is_uncaused.result c.is_last_failure.result (to_z-of_z w32 a.code c.ranges.code) c.if-not-has_outcome.ensures c.requires.fetch c.requires.body c.requires.notes c.is_some.ensures c.is_fetched.ensures c.if-is_some-is_fetched.false c.is_some-2.ensures c.is_status.ensures c.if-is_some-is_status.false c.is_uncaused.ensures c.is_last_failure.ensures c.if-is_uncaused-is_last_failure.false,
      refl,
    )
