use Rattle.std.proofs.Common.{◌≡◌, Err, IsErrAnd, ap, subst, sym, ◌∙◌}
use Rattle.crawl_traits.specs.Exchanges.{giving, opened, taking}
use Rattle.http_fetch.proofs.Exchanged.{head_within, suits}
use Rattle.http_fetch.proofs.page.fetch.Goals as goal

pub returns-in_err-span-clause-stop_span : goal.returns-in_err-span-clause-stop_span
returns-in_err-span-clause-stop_span g c = λ fault span same.
    let stop = c.in_err-span.field-0.0 in
    let kept = subst (λ r. IsErrAnd r (λ s. s ≡ stop)) same c.from_residual.ensures.1 in
    c.timed.ensures.stop_span fault span (c.in_err-span.was ∙ ap Err (sym kept))

pub returns-clause-exchange : goal.returns-clause-exchange
returns-clause-exchange g c = λ told.
    let r = c.in_ok-span.ensures.given told in
    let text = c.as_slice.result.now in
    let asked = c.as_slice.ensures.value ∙ c.in-Ok-request_bytes.ensures in (
      giving r.0 r.1 (taking text (opened _ c.in-Ok.peer.port)),
      r.2,
      suits c.args.uri.now c.args.settings.now _ c.in-Ok.peer.port text r.0 r.1 c.in_ok-span.block c.in-Ok-reply_of.reply c.in-Ok.ensures.host c.in-Ok.ensures.port asked r.3 c.in-Ok-reply_of.ensures,
    )

pub returns-clause-head : goal.returns-clause-head
returns-clause-head g c = head_within c.args.settings.now.max_response_bytes c.in_ok-span.block c.in-Ok-reply_of.reply c.in-Ok-reply_of.ensures
