-- From the steps of a link to the exchange that they leave, and from what was read to the reply.
use Rattle.std.proofs.Common.{◌≡◌, ℕ, ◌+◌, ◌≤◌, Bool, List, [], ◌∷◌, ◌++◌, length, drop, Option, Some, None, Result, Ok, Err, IfOk, OnErr, IfSome, ap, ◌∙◌, sym, subst, arith, length-append}
use Rattle.crawl_kinds.specs.declared.settings.Settings.{Settings}
use Rattle.crawl_traits.specs.declared.link.Exchange.{Exchange}
use Rattle.crawl_traits.specs.Exchanges.{opened, taking, giving, with_last}
use Rattle.http_fetch.proofs.Last.{with_last-end}
use Rattle.http_fetch.specs.Fetching.{IsReplyIn, Suits}
use Rattle.http_fetch.specs.Reading.{Reads}
use Rattle.http_message.specs.declared.front.Reply.{Reply}
use Rattle.httparse.specs.Grammar.{print_response}
use Rattle.page_spec.specs.Peer.{peer_host, peer_port}
use Rattle.page_spec.specs.Request.{request_text}
use Rattle.page_spec.specs.Response.{BeginsWith, IsReplyOf}

-- of the value, if there is one, a consequence
pub if_ok : {T E : Type 0} {P Q : T → Type 0} (r : Result T E) → IfOk r P → ((x : T) → P x → Q x) → IfOk r Q
if_ok (Ok x) p f = f x p
if_ok (Err e) p f = p

-- at an error, a consequence
pub on_err : {T E P Q : Type 0} (r : Result T E) → OnErr r P → (P → Q) → OnErr r Q
on_err (Ok x) p f = p
on_err (Err e) p f = f p

-- the last exchange is a new one, after a step
pub stepped : (step : Exchange → Exchange) (e : Exchange) (old before after : List Exchange) → before ≡ old ++ e ∷ []
    → after ≡ with_last step before → after ≡ old ++ step e ∷ []
stepped step e old before after made stepping = stepping ∙ ap (with_last step) made ∙ with_last-end step old e

-- a new exchange's host is known under another name
pub renamed : (host name : List ℕ) (port : ℕ) (old after : List Exchange) → host ≡ name
    → after ≡ old ++ opened host port ∷ [] → after ≡ old ++ opened name port ∷ []
renamed host name port old after same made = made ∙ ap (λ h. old ++ opened h port ∷ []) same

-- an exchange that took the request and gave what was read suits the reply
pub suits : (uri : List ℕ) (settings : Settings) (host : List ℕ) (port : ℕ) (text given : List ℕ) (ended : Bool)
    (block : Option (List ℕ)) (reply : Option Reply) → host ≡ peer_host settings.proxy uri → port ≡ peer_port settings.proxy uri → text ≡ request_text uri settings
    → Reads settings.max_response_bytes given ended block → IsReplyIn settings.max_response_bytes block reply
    → Suits uri settings (giving given ended (taking text (opened host port))) reply
suits uri settings host port text given ended None None h p t reads is =
    record { sent = record { to = record { host = h; port = p }; taken = t }; none = reads }
suits uri settings host port text given ended None (Some reply) h p t reads is = absurd is
suits uri settings host port text given ended (Some block) None h p t reads is = absurd is
suits uri settings host port text given ended (Some block) (Some reply) h p t reads is = (
  record {
    sent = record { to = record { host = h; port = p }; taken = t };
    begins = subst (BeginsWith settings.max_response_bytes given) (sym is.0) reads;
  },
  is.1,
)

-- the reply is that of its own block
pub is_reply : (limit : ℕ) (block : Option (List ℕ)) (reply : Option Reply) → IsReplyIn limit block reply
    → IfSome reply (λ r. IsReplyOf limit r.block r.status r.media r.head_len)
is_reply limit None None is = is
is_reply limit None (Some reply) is = absurd is
is_reply limit (Some block) None is = absurd is
is_reply limit (Some block) (Some reply) is = is.1

-- a head is no longer than its block
head_fits : (limit : ℕ) (block : List ℕ) (status : ℕ) (media : List ℕ) (head_len : ℕ) → IsReplyOf limit block status media head_len
    → head_len ≤ length block
head_fits limit block status media head_len is =
    let cut : length block ≡ length (print_response is.h) + length (drop head_len block) =
    ap length is.whole.head.reads.1 ∙ length-append (print_response is.h) (drop head_len block) in
    omega (arith, cut, is.head_is)

pub head_within : (limit : ℕ) (block : Option (List ℕ)) (reply : Option Reply) → IsReplyIn limit block reply
    → IfSome reply (λ r. r.head_len ≤ length r.block)
head_within limit None None is = is
head_within limit None (Some reply) is = absurd is
head_within limit (Some block) None is = absurd is
head_within limit (Some block) (Some reply) is = head_fits limit reply.block reply.status reply.media reply.head_len is.1
