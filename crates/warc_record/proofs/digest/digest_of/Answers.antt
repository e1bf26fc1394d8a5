use Rattle.std.proofs.Common.{◌≡◌, ◌++◌, ◌∙◌, ◌≤◌, ap, length, List, ℕ, rules}
use Rattle.std.specs.Prelude.{codes}
use Rattle.std.proofs.lemmas.Result.{IfOk-weaker}
use Rattle.record_spec.specs.Base32.{base32}
use Rattle.warc_record.proofs.Visible.{length-marked, marked_utf8, marked_fits}
use Rattle.warc_record.proofs.digest.digest_of.Goals as goal

pub text_of-requires : goal.text_of-requires
text_of-requires c =
    let text : c.deref.result.now ≡ codes "sha1:" ++ base32 c.digest.result = search rules in
    let short : length c.digest.result ≤ 20 = search rules in
    record {
      utf8 = rw text (marked_utf8 c.digest.result);
      fits = rw text (marked_fits c.digest.result short);
    }

pub returns-clause-len : goal.returns-clause-len
returns-clause-len c =
    let text : c.deref.result.now ≡ codes "sha1:" ++ base32 c.digest.result = search rules in
    let short : length c.digest.result ≡ 20 = search rules in
    IfOk-weaker c.text_of.result _ _ (λ digest is. ap (λ (l : List ℕ). length l) (is ∙ text) ∙ length-marked c.digest.result short) c.text_of.ensures
