use Rattle.std.proofs.Common.{map, take}
use Rattle.httparse.specs.Spans.{header_bytes}
use Rattle.page_spec.specs.Fields.{values_of}
use Rattle.http_message.specs.Seen.{IsSeen}
use Rattle.http_message.proofs.fields.find_values.Given as goal

abbrev pub invariant-loop-span : goal.invariant-loop-span
invariant-loop-span l = IsSeen l.bytes (values_of l.name (map (header_bytes l.bytes) (take l.span-index l.spans))) l.seen
