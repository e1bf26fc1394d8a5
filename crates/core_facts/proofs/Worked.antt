-- The rows are computed.
use Rattle.std.specs.Prelude.{refl}
use Rattle.url.proofs.OnLiterals.{url_on_literals}
use Rattle.core_facts.specs.Worked.{AreWorked}

pub worked : AreWorked
unfolding url_on_literals
worked =
    record {
      accepted = refl;
      far = refl;
      no_such_scope = refl;
      none_at_0 = refl;
      secure = refl;
      plain = refl;
      allowed = refl;
      forbidden = refl;
      other = refl;
      session = refl;
      nameless = refl;
      too_late = refl;
      seeds = refl;
      other_rank = refl;
    }
