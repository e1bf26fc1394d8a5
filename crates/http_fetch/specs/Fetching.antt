-- What a fetch leaves.
--     IsSpanOf gives span      the span is made of two moments that the clock gives
--     Suits uri settings e reply      the exchange was answered by the reply's block, or unanswered
--     IsBegun uri settings before after      no connection more, or one to the address's host and port, or the proxy's
use Rattle.std.specs.Prelude.{◌≡◌, ◌⊎◌, ℕ, ◌-◌, min, List, [], ◌∷◌, ◌++◌, Option, Some, None}
use Rattle.crawl_kinds.specs.declared.event.Fetch.{Fetch}
use Rattle.crawl_kinds.specs.declared.settings.Settings.{Settings}
use Rattle.crawl_traits.specs.declared.link.Exchange.{Exchange}
use Rattle.http_message.specs.declared.front.Reply.{Reply}
use Rattle.page_spec.specs.Outcome.{Answered, IsTo, Unanswered}
use Rattle.page_spec.specs.Response.{IsReplyOf}

-- the latest time of an event
abbrev pub latest : ℕ
latest = 253402000000000

-- from the one moment to the other, both cut at the latest time
pub record IsSpanOf (gives : ℕ → Type 0) (span : Fetch) : Type 0 where
  pub first : ℕ
  pub second : ℕ
  pub first_given : gives first
  pub second_given : gives second
  pub start : span.start ≡ min first latest
  pub duration : span.duration ≡ min second latest - min first latest

-- the exchange was answered by this reply, or it is unanswered
abbrev pub Suits : List ℕ → Settings → Exchange → Option Reply → Type 0
Suits uri settings e None = Unanswered uri settings e
Suits uri settings e (Some reply) =
    Answered uri settings e reply.block
    × IsReplyOf settings.max_response_bytes reply.block reply.status reply.media reply.head_len

-- no exchange came, or one with the address's host and port, or the proxy's
abbrev pub IsBegun : List ℕ → Settings → List Exchange → List Exchange → Type 0
IsBegun uri settings before after =
    (after ≡ before) ⊎ ((e : Exchange) × IsTo uri settings e × (after ≡ before ++ e ∷ []))

-- the reply is that of the block, where there is one
abbrev pub IsReplyIn : ℕ → Option (List ℕ) → Option Reply → Type 0
IsReplyIn limit None None = Unit {0}
IsReplyIn limit None (Some reply) = ⊥
IsReplyIn limit (Some block) None = ⊥
IsReplyIn limit (Some block) (Some reply) =
    (reply.block ≡ block) × IsReplyOf limit reply.block reply.status reply.media reply.head_len
