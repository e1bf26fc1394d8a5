use Rattle.std.proofs.Common.{◌≡◌, take}
use Rattle.page_spec.specs.Fields.{values_of}
use Rattle.http_message.specs.Kept.{pairs_of}
use Rattle.http_message.proofs.head_fields.field_values.Given as goal

abbrev pub invariant-loop-field : goal.invariant-loop-field
invariant-loop-field l = l.values ≡ values_of l.name (pairs_of (take l.field-index l.field-items))
