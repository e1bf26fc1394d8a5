-- Each by computing both sides.
use Rattle.std.proofs.Common.{refl}
use Rattle.std.specs.Fmt.{digits}
use Rattle.url.proofs.OnLiterals.{url_on_literals}
use Rattle.journal_valid.proofs.worked_examples.Goals as goal

pub returns : goal.returns
unfolding url_on_literals digits
returns c = record {
  page = refl;
  robots = refl;
  redirected = refl;
  last_prerequisite = refl;
  no_prerequisite = refl;
  robots_first = refl;
  redirect = refl;
  embed = refl;
  seed = refl;
  status = refl;
  no_status = refl;
  refused = refl;
  last = refl;
  forbidden = refl;
  unknown_code = refl;
  lost_fetch = refl;
  needed_fetch = refl;
  html = refl;
  unknown_type = refl;
  capitals = refl;
  half_a_type = refl;
  two_slashes = refl;
  digest = refl;
  short_digest = refl;
}
