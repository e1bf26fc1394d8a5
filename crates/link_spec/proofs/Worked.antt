-- The worked examples, computed.
use Rattle.std.proofs.Common.{refl}
use Rattle.link_spec.specs.Cut.{pieces}
use Rattle.link_spec.specs.Entities.{entity}
use Rattle.link_spec.specs.Attributes.{attribute_at}
use Rattle.link_spec.specs.Segments.{segment_at}
use Rattle.link_spec.specs.Css.{css_use}
use Rattle.link_spec.specs.Scripts.{string_use}
use Rattle.link_spec.specs.Worked.{AreWorked}

pub worked : AreWorked
unfolding pieces css_use string_use entity attribute_at segment_at lib.Utf8.encode
worked = record {
  base = refl;
  refs = refl;
  parts = refl;
  by_rel = refl;
  srcset = refl;
  refresh = refl;
  entities = refl;
  style = refl;
  css = refl;
  css_many = refl;
  css_open = refl;
  css_end = refl;
  strings = refl;
  strings_mixed = refl;
}
