use Rattle.std.proofs.Common.{List, ℕ, ◌++◌, ◌∙◌, ap, string_bytes, codes}
use Rattle.http_message.proofs.Joined.{joined5}
use Rattle.http_message.proofs.request.push_agent.Goals as goal

pub returns : goal.returns
returns c =
    let s1 : List ℕ = string_bytes c.push_str.new.self in
    let s3 : List ℕ = string_bytes c.push_str-3.new.self in
    let agent : List ℕ = c.args.settings.now.agent in
    let contact : List ℕ = c.args.settings.now.contact in
    joined5 _ s1 _ s3 _ _ (codes "Mozilla/5.0 (compatible; ") agent (codes "/1 +") contact (codes ")")
    c.in_ok-push_str.ensures.bytes
    (c.in_ok-push_str-2.ensures.bytes ∙ ap (λ x. s1 ++ x) c.as_str.ensures.same)
    c.in_ok-push_str-3.ensures.bytes
    (c.in_ok-push_str-4.ensures.bytes ∙ ap (λ x. s3 ++ x) c.as_str-2.ensures.same)
    c.in_ok-push_str-5.ensures.bytes
