-- What is recorded of an item that was processed.
--     IsBodyAt place settings uri fetch reply body bytes      the bytes are the record of the response, and the body says so
--     IsRecorded edge d body bytes      the same behind the last cited record, where a response came
--     HoldsReply a d body      the archive has the block of the response at its spot
use Rattle.std.specs.Prelude.{◌≡◌, ℕ, List, [], length, drop, Option, Some, None}
use Rattle.crawl_kinds.specs.declared.event.Body.{Body}
use Rattle.crawl_kinds.specs.declared.event.Fetch.{Fetch}
use Rattle.crawl_kinds.specs.declared.settings.Settings.{Settings}
use Rattle.crawl_kinds.specs.declared.snapshot.Edge.{Edge}
use Rattle.crawl_history.specs.Facts.{Archive}
use Rattle.crawl_facts.specs.Pages.{naming_at, place_after, spot_at}
use Rattle.http_message.specs.declared.front.Reply.{Reply}
use Rattle.record_spec.specs.Base32.{digest_text}
use Rattle.record_spec.specs.Record.{IsResponseRecord}
use Rattle.process_chains.specs.Done.{Done}

-- the payload of a response stands behind its head
abbrev pub payload_in : Reply → List ℕ
payload_in reply = drop reply.head_len reply.block

-- the body of a response whose record of so many bytes stands at the place
abbrev pub body_at : Edge → Reply → ℕ → Body
body_at place reply len =
    record { size = length reply.block; media = reply.media; digest = digest_text (payload_in reply); spot = spot_at place len }

-- the bytes are the record of the response at the place, and the body names them
pub record IsBodyAt (place : Edge) (settings : Settings) (uri : List ℕ) (fetch : Option Fetch) (reply : Reply) (body : Body) (bytes : List ℕ) : Type 0 where
  pub span : Fetch
  pub fetched : fetch ≡ Some span
  pub written : IsResponseRecord (naming_at settings place) uri span.start (digest_text (payload_in reply)) reply.block bytes
  pub body_is : body ≡ body_at place reply (length bytes)

-- what is recorded stands behind the last cited record; without a response that is nothing
abbrev pub IsRecordedAs : Edge → Done → Option Reply → Option Body → List ℕ → Type 0
IsRecordedAs place d None None bytes = bytes ≡ []
IsRecordedAs place d None (Some body) bytes = ⊥
IsRecordedAs place d (Some reply) None bytes = ⊥
IsRecordedAs place d (Some reply) (Some body) bytes = IsBodyAt place d.settings d.work.item.uri d.ending.fetch reply body bytes

abbrev pub IsRecorded : Option Edge → Done → Option Body → List ℕ → Type 0
IsRecorded edge d body bytes = IsRecordedAs (place_after edge) d d.reply body bytes

-- the archive has the block of the response where it is recorded
abbrev pub HoldsBlock : Archive → Option Reply → Option Body → Type 0
HoldsBlock a None body = Unit {0}
HoldsBlock a (Some reply) None = Unit {0}
HoldsBlock a (Some reply) (Some body) = a body.spot ≡ reply.block

abbrev pub HoldsReply : Archive → Done → Option Body → Type 0
HoldsReply a d body = HoldsBlock a d.reply body
