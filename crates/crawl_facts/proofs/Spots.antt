-- How long the record of a response is does not hang on its date.
use Rattle.std.proofs.Common.{◌≡◌, ℕ, ◌+◌, List, [], ◌∷◌, ◌++◌, length, length-append, refl, sym, ◌∙◌, ap}
use Rattle.std.specs.Prelude.{codes, flat_map}
use Rattle.jiff_core.specs.declared.civil.datetime.DateTime.{DateTime}
use Rattle.record_spec.specs.Base32.{digest_text}
use Rattle.record_spec.specs.Date.{IsDateOf, utc_text}
use Rattle.record_spec.specs.Record.{Field, crlf, field_line, length_field, record_id, record_text, response_fields, response_record, IsResponseRecord}
use Rattle.record_spec.specs.declared.naming.Naming.{Naming}

-- a date that is as long as any
pub some_date : List ℕ
some_date = codes "1970-01-01T00:00:00.000Z"

after_same : (a b c : List ℕ) → length b ≡ length c → length (a ++ b) ≡ length (a ++ c)
after_same a b c e = length-append a b ∙ ap (λ (n : ℕ). length a + n) e ∙ sym (length-append a c)

before_same : (a b c : List ℕ) → length a ≡ length b → length (a ++ c) ≡ length (b ++ c)
before_same a b c e = length-append a c ∙ ap (λ (n : ℕ). n + length c) e ∙ sym (length-append b c)

utc_is_long : (utc : DateTime) → length (utc_text utc) ≡ 24
utc_is_long utc = refl

date_is_long : (start : ℕ) (date : List ℕ) → IsDateOf start date → length date ≡ length some_date
unfolding some_date
date_is_long start date is = ap (λ (t : List ℕ). length t) is.written ∙ utc_is_long is.utc

-- a field that is as long, in its place
fields_same : (one two : Field) (one_date other : Field) (more : List Field) → length (field_line one_date) ≡ length (field_line other)
    → length (flat_map field_line (one ∷ two ∷ one_date ∷ more)) ≡ length (flat_map field_line (one ∷ two ∷ other ∷ more))
fields_same one two one_date other more e =
    after_same (field_line one) _ _ (after_same (field_line two) _ _ (before_same (field_line one_date) (field_line other) (flat_map field_line more) e))

text_same : (some other : List Field) (block : List ℕ) → length (flat_map field_line some) ≡ length (flat_map field_line other) → length (record_text some block) ≡ length (record_text other block)
text_same some other block e =
    let front : List ℕ = codes "WARC/1.1" ++ crlf in
    let counted : List ℕ = field_line (length_field block) in
    let a : List ℕ = front ++ flat_map field_line some in
    let b : List ℕ = front ++ flat_map field_line other in
    before_same ((((a ++ counted) ++ crlf) ++ block) ++ crlf) ((((b ++ counted) ++ crlf) ++ block) ++ crlf) crlf
    (before_same (((a ++ counted) ++ crlf) ++ block) (((b ++ counted) ++ crlf) ++ block) crlf
    (before_same ((a ++ counted) ++ crlf) ((b ++ counted) ++ crlf) block
    (before_same (a ++ counted) (b ++ counted) crlf
    (before_same a b counted (after_same front (flat_map field_line some) (flat_map field_line other) e)))))

pub record_is_long : (place : Naming) (uri : List ℕ) (start : ℕ) (digest block bytes : List ℕ) → IsResponseRecord place uri start digest block bytes
    → length (response_record place uri some_date digest block) ≡ length bytes
record_is_long place uri start digest block bytes is =
    let name : List ℕ = codes "WARC-Date" in
    let date : length some_date ≡ length is.date = sym (date_is_long start is.date is.dated) in
    let line : length (field_line (name, some_date)) ≡ length (field_line (name, is.date)) =
    after_same name (codes ": " ++ (some_date ++ crlf)) (codes ": " ++ (is.date ++ crlf))
    (after_same (codes ": ") (some_date ++ crlf) (is.date ++ crlf) (before_same some_date is.date crlf date)) in
    let id : List ℕ = record_id place (codes "response") in
    let behind : List Field =
    (codes "WARC-Payload-Digest", digest) ∷ (codes "WARC-Block-Digest", digest_text block) ∷ (codes "WARC-Record-ID", id)
    ∷ (codes "Content-Type", codes "application/http; msgtype=response") ∷ [] in
    text_same (response_fields uri some_date digest (digest_text block) id) (response_fields uri is.date digest (digest_text block) id) block
    (fields_same (codes "WARC-Type", codes "response") (codes "WARC-Target-URI", uri) (name, some_date) (name, is.date) behind line)
    ∙ ap (λ (t : List ℕ). length t) (sym is.written)
