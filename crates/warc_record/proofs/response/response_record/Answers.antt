use Rattle.std.proofs.Common.{◌≡◌, ◌∙◌, List, ℕ, rules}
use Rattle.std.specs.Prelude.{codes}
use Rattle.std.proofs.lemmas.Result.{IfOk-weaker}
use Rattle.record_spec.specs.Base32.{digest_text}
use Rattle.record_spec.specs.Record.{record_id, record_text, response_fields}
use Rattle.warc_record.proofs.response.response_record.Goals as goal

-- a record of the texts that were computed
same_record : (uri uri' date digest digest' hash hash' id id' block : List ℕ) → uri ≡ uri' → digest ≡ digest' → hash ≡ hash' → id ≡ id' → record_text (response_fields uri date digest hash id) block ≡ record_text (response_fields uri' date digest' hash' id') block
same_record uri uri' date digest digest' hash hash' id id' block a b c d = rw (a, b, c, d)

pub returns : goal.returns
returns c =
    let uri : c.as_bytes.result.now ≡ c.args.uri.now = search rules in
    let digest : c.as_bytes-2.result.now ≡ c.args.digest.now = search rules in
    let hash : c.as_bytes-3.result.now ≡ digest_text c.args.block.now = search rules in
    let id : c.deref.result.now ≡ record_id c.args.place.now (codes "response") = c.deref.ensures.value ∙ c.in_ok-id.ensures in
    IfOk-weaker c.response_of.result _ _
    (λ bytes same. record {
      date = c.date_text-date.result;
      dated = c.date_text-date.ensures;
      written = same ∙ same_record _ _ c.date_text-date.result _ _ _ _ _ _ c.args.block.now uri digest hash id;
    })
    c.response_of.ensures
