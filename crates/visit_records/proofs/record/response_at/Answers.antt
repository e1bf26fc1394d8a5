use Rattle.std.proofs.Common.{◌≡◌, ◌+◌, ◌∙◌, ap, arith}
use Rattle.crawl_kinds.specs.declared.event.Spot.{Spot}
use Rattle.process_chains.specs.Done.{payload_of}
use Rattle.record_spec.specs.Base32.{digest_text}
use Rattle.visit_spec.specs.Recorded.{payload_in}
use Rattle.visit_records.proofs.Bodies.{body_valid}
use Rattle.visit_records.proofs.record.response_at.Goals as goal

pub returns-clause-named : goal.returns-clause-named
returns-clause-named c =
    let spot : Spot = c.in_ok-spot.spot in
    let text : c.in_ok-digest.digest ≡ digest_text (payload_in c.args.reply.now) =
    c.in_ok-digest.ensures.text ∙ ap digest_text (c.payload.ensures ∙ ap payload_of c.requires.reply) in
    body_valid c.args.settings.now.max_response_bytes c.requires.limit c.args.reply.now c.requires.whole c.in_ok-digest.digest spot
    c.in_ok-body.body c.in_ok-body.ensures.is c.in_ok-body.ensures.media text c.in_ok-digest.ensures.len c.in_ok-body.ensures.digest c.in_ok-body.ensures.file
    (omega (arith, c.in_ok-spot.ensures.within, ap (λ (s : Spot). s.at + s.len) c.in_ok-spot.ensures.is))
