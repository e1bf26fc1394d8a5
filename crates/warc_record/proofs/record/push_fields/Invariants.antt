use Rattle.std.proofs.Common.{◌≡◌, ◌++◌, take, flat_map}
use Rattle.record_spec.specs.Record.{field_line}
use Rattle.warc_record.specs.Fields.{pairs}
use Rattle.warc_record.proofs.record.push_fields.Given as goal

abbrev pub invariant-loop-field : goal.invariant-loop-field
invariant-loop-field l = l.into.items ≡ l.initial.into.items ++ flat_map field_line (pairs (take l.field-index l.fields))
