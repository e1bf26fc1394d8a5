use Rattle.std.proofs.Common.{◌++◌, get_or, map, take, ap, subst, sym, ◌∙◌, append-nil}
use Rattle.httparse.specs.declared.spans.HeaderSpan.{HeaderSpan}
use Rattle.httparse.specs.Spans.{header_bytes}
use Rattle.page_spec.specs.Fields.{values_of}
use Rattle.http_message.specs.Seen.{IsSeen}
use Rattle.http_message.proofs.Values.{values_more, values_yes, values_no}
use Rattle.http_message.proofs.fields.find_values.Goals.{then-is_named, else-is_named}
use Rattle.http_message.proofs.fields.find_values.Goals as goal

pub loop-span-preserved : goal.loop-span-preserved
loop-span-preserved c =
    let bytes = c.args.bytes.now in
    let spans = c.args.spans.now in
    let name = c.args.name.now in
    let i = c.loop-span.span-index in
    let none : HeaderSpan = record { name = record { start = 0; end = 0 }; value = record { start = 0; end = 0 } } in
    let more = values_more name bytes spans i none c.loop-span-test.true in
    let field = header_bytes bytes (get_or spans i none) in
    let old = values_of name (map (header_bytes bytes) (take i spans)) in
    elim c.if-is_named.branch [
      | then-is_named w ↦
          let here = values_yes name field (sym c.is_named.ensures ∙ w.if-is_named.true) in
          let now = w.with_value-seen.ensures bytes old c.loop-span.invariant (c.requires i none c.loop-span-test.true).1 in
          rw w.seen-is (subst (λ vs. IsSeen bytes vs w.with_value-seen.result) (sym (more ∙ ap (λ v. old ++ v) here)) now)
      | else-is_named w ↦
          let other = values_no name field (sym c.is_named.ensures ∙ w.if-is_named.false) in
          rw w.seen-is (subst (λ vs. IsSeen bytes vs c.loop-span.seen) (sym (more ∙ ap (λ v. old ++ v) other ∙ append-nil old)) c.loop-span.invariant)
    ]
