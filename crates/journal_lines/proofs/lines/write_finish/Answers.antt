use Rattle.std.proofs.Common.{◌∙◌, ap, ◌++◌}
use Rattle.std.proofs.lemmas.Result.{on_ok_weaker}
use Rattle.journal_spec.specs.Fields.{item_fields, ticket_fields, outcome_tag, end_fields}
use Rattle.journal_lines.proofs.Growth.{line_of_groups}
use Rattle.journal_lines.proofs.lines.write_finish.Goals as goal

pub returns-clause-ok : goal.returns-clause-ok
returns-clause-ok c =
    let groups =
    line_of_groups
    c.args.into.now.items
    (outcome_tag c.args.end.now.outcome)
    (item_fields c.args.item.now)
    (ticket_fields c.args.time c.args.caller c.args.ticket)
    (end_fields c.args.end.now)
    in
    let tagged = c.in_ok-write_text.ensures.ok ∙ ap (λ text. c.args.into.now.items ++ text) c.tag_of.ensures in
    on_ok_weaker
    c.write_text-2.result
    (groups tagged c.in_ok-write_item.ensures.ok c.in_ok-write_ticket.ensures.ok c.in_ok-write_end.ensures.ok)
    c.write_text-2.ensures.ok
