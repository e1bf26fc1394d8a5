use Rattle.std.proofs.Common.{◌∙◌, ap, sym}
use Rattle.std.specs.Option.{option_copied}
use Rattle.visit_records.proofs.Fetches.{fetch_is, no_fetch}
use Rattle.visit_records.proofs.record.record_of.Goals as goal

pub unreachable-requires : goal.unreachable-requires
unreachable-requires c =
    no_fetch c.args.done.now c.reply.ensures.done c.requires.tries c.in-Some.reply.now (sym c.reply.ensures.same ∙ ap option_copied c.in-Some.is)
    (sym c.fetch.ensures ∙ c.in_default-fetch.is)

pub response_at-requires-clause-span : goal.response_at-requires-clause-span
response_at-requires-clause-span c =
    fetch_is c.args.done.now c.reply.ensures.done c.requires.tries c.in-Some.reply.now (sym c.reply.ensures.same ∙ ap option_copied c.in-Some.is)
    c.in-Some-fetch.span (sym c.fetch.ensures ∙ c.in-Some-fetch.is)
