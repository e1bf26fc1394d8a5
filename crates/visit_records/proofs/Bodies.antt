-- What the journal says of a recorded response is what a line of it can say.
use Rattle.std.proofs.Common.{◌≡◌, ℕ, ◌+◌, ◌≤◌, ◌<◌, ◌^◌, true, List, length, sym, ◌∙◌, ap, subst, arith}
use Rattle.std.specs.Prelude.{IsTrue}
use Rattle.crawl_kinds.specs.Text.{is_text, is_visible}
use Rattle.crawl_kinds.specs.declared.event.Body.{Body}
use Rattle.crawl_kinds.specs.declared.event.Spot.{Spot}
use Rattle.http_message.specs.declared.front.Reply.{Reply}
use Rattle.journal_valid.specs.Ends.{IsBody, is_digest, is_type}
use Rattle.page_spec.specs.Response.{fields_of}
use Rattle.process_chains.specs.Done.{IsReply}
use Rattle.record_spec.specs.Base32.{digest_text}
use Rattle.visit_spec.specs.Recorded.{payload_in}
use Rattle.visit_records.proofs.Digests.{digest_is}
use Rattle.visit_records.proofs.MediaTypes.{media_typed}

module _ (limit : ℕ) (small : limit ≤ 8388608) (reply : Reply) (is : IsReply limit reply) (digest : List ℕ) (spot : Spot) where
  abbrev said : Body
  said = record { size = length reply.block; media = reply.media; digest = digest; spot = spot }

  typed : is_type reply.media ≡ true
  typed = ap is_type is.media_is ∙ media_typed (fields_of is.h)

  -- the body of a whole response
  pub body_valid : (body : Body) → body ≡ said → IsTrue (is_text is_visible 100 reply.media) → digest ≡ digest_text (payload_in reply) → length digest ≡ 37 → IsTrue (is_text is_visible 37 digest)
      → spot.file < 2 ^ 32 → spot.at + spot.len ≤ 4294967295 → IsBody body
  body_valid body body_is media text long visible file within =
      let digested : is_digest digest ≡ true =
      subst (λ (d : List ℕ). is_digest d ≡ true) (sym text) (digest_is (payload_in reply) (subst (λ (d : List ℕ). length d ≡ 37) text long)) in
      subst IsBody (sym body_is)
      (record {
        size = omega (arith, is.whole.within, small);
        media = media;
        typed = typed;
        digest = visible;
        digested = digested;
        file = file;
        at = omega (arith, within);
        len = omega (arith, within);
      })
