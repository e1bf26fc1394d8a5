use Rattle.std.proofs.Common.{inr, [], false, take, string_bytes, ◌∙◌}
use Rattle.crawl_traits.specs.Exchanges.{giving, opened, taking}
use Rattle.http_fetch.proofs.Exchanged.{if_ok, on_err, renamed, stepped}
use Rattle.http_fetch.proofs.page.exchange.Goals as goal

pub returns-in-Err-send_whole-clause-err : goal.returns-in-Err-send_whole-clause-err
returns-in-Err-send_whole-clause-err g c = λ told.
    let host = string_bytes c.args.peer.now.host in
    let made = renamed c.as_str.result.now host c.args.peer.now.port _ _ c.as_str.ensures.value (c.in-Ok.ensures.made told) in
    let part = c.in-Err-send_whole.ensures.err (c.in-Ok.ensures.tells ∙ told) in
    let taken = take part.0 c.args.request.now in
    inr (taken, [], stepped (taking taken) (opened host c.args.peer.now.port) _ _ _ made part.2)

pub returns-clause-given : goal.returns-clause-given
returns-clause-given g c = λ told.
    let told1 = c.in-Ok.ensures.tells ∙ told in
    let host = string_bytes c.args.peer.now.host in
    let port = c.args.peer.now.port in
    let made = renamed c.as_str.result.now host port _ _ c.as_str.ensures.value (c.in-Ok.ensures.made told) in
    let sent = stepped (taking c.args.request.now) (opened host port) _ _ _ made (c.in-Ok-send_whole.ensures.ok told1) in
    if_ok c.receive.result (c.receive.ensures.given (c.in-Ok-send_whole.ensures.tells ∙ told1))
    (λ block r. (r.0, r.1, stepped (giving r.0 r.1) (taking c.args.request.now (opened host port)) _ _ _ sent r.2, r.3))

pub returns-clause-err : goal.returns-clause-err
returns-clause-err g c = λ told.
    let told1 = c.in-Ok.ensures.tells ∙ told in
    let host = string_bytes c.args.peer.now.host in
    let port = c.args.peer.now.port in
    let made = renamed c.as_str.result.now host port _ _ c.as_str.ensures.value (c.in-Ok.ensures.made told) in
    let sent = stepped (taking c.args.request.now) (opened host port) _ _ _ made (c.in-Ok-send_whole.ensures.ok told1) in
    on_err c.receive.result (c.receive.ensures.err (c.in-Ok-send_whole.ensures.tells ∙ told1))
    (λ r. inr (c.args.request.now, r.0, stepped (giving r.0 false) (taking c.args.request.now (opened host port)) _ _ _ sent r.1))
