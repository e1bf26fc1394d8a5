-- The worked examples, computed.
use Rattle.std.proofs.Common.{refl}
use Rattle.httparse.proofs.OnLiterals.{httparse_on_literals}
use Rattle.url.proofs.OnLiterals.{url_on_literals}
use Rattle.std.specs.Str.Lossy.{utf8_lossy, utf8_valid_len, utf8_error_len}
use Rattle.link_spec.specs.Cut.{pieces}
use Rattle.link_spec.specs.Entities.{entity}
use Rattle.link_spec.specs.Attributes.{attribute_at}
use Rattle.link_spec.specs.Segments.{segment_at}
use Rattle.link_spec.specs.Css.{css_use}
use Rattle.link_spec.specs.Scripts.{string_use}
use Rattle.extract_spec.specs.Links.{links_of}
use Rattle.extract_spec.specs.Worked.{AreWorked}

pub worked : AreWorked
unfolding httparse_on_literals url_on_literals utf8_lossy utf8_valid_len utf8_error_len pieces entity attribute_at segment_at css_use string_use links_of lib.Utf8.encode
worked = record {
  html = refl;
  xhtml = refl;
  css = refl;
  script = refl;
  image = refl;
  untyped = refl;
  gzip = refl;
  identity = refl;
  both = refl;
  empty = refl;
  clean = refl;
  relative = refl;
  mail = refl;
  bad = refl;
  redirected = refl;
  refused = refl;
  not_moved = refl;
  styled = refl;
  based = refl;
  redirected_by_base = refl;
  first_page = refl;
  second_page = refl;
}
