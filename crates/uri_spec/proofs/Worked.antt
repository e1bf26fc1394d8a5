-- The worked examples, computed.
use Rattle.std.proofs.Common.{refl}
use Rattle.url.proofs.OnLiterals.{url_on_literals}
use Rattle.uri_spec.specs.Worked.{AreWorked}

pub worked : AreWorked
unfolding url_on_literals
worked = record {
  name = refl;
  port = refl;
  address = refl;
  secure = refl;
  secure_class = refl;
  bracketed = refl;
  user_class = refl;
  user_key = refl;
  robots = refl;
  members = refl;
  two_labels = refl;
  long_id = refl;
  domain = refl;
  bare = refl;
  folder = refl;
  page = refl;
  with_port = refl;
  with_address = refl;
}
