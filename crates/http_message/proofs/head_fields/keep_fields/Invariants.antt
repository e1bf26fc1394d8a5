use Rattle.std.proofs.Common.{◌≡◌, map, take}
use Rattle.httparse.specs.Spans.{header_bytes}
use Rattle.http_message.specs.Kept.{pairs_of}
use Rattle.http_message.proofs.head_fields.keep_fields.Given as goal

abbrev pub invariant-loop-span : goal.invariant-loop-span
invariant-loop-span l = pairs_of l.fields ≡ map (header_bytes l.bytes) (take l.span-index l.spans)
