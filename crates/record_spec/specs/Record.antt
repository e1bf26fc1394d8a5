-- WARC 1.1 records (ISO 28500 §4): a version, named fields, a block.
--     record_text fields block      a record of any kind
--     record_id place kind      the id of a record
--     IsResponseRecord place uri start digest block bytes      the bytes are the record of a response
use Rattle.std.specs.Prelude.{◌≡◌, ℕ, List, [], ◌∷◌, ◌++◌, length, take, codes, decimal, flat_map}
use Rattle.std.specs.List.{join_with_byte}
use Rattle.sha1.specs.Sha1.{sha1}
use Rattle.uuid.specs.declared.Variant.TheVariants.{RFC4122}
use Rattle.uuid.specs.declared.Version.TheVariants.{Sha1}
use Rattle.uuid.specs.Parts.{with_version, with_variant}
use Rattle.uuid.specs.Text.{hyphenated_text, lower}
use Rattle.uuid.specs.Uuid.{namespace_url}
use Rattle.record_spec.specs.declared.naming.Naming.{Naming}
use Rattle.record_spec.specs.Base32.{digest_text}
use Rattle.record_spec.specs.Date.{IsDateOf}

-- the end of a line
abbrev pub crlf : List ℕ
crlf = 13 ∷ 10 ∷ []

-- a name and a value
abbrev pub Field : Type 0
Field = List ℕ × List ℕ

-- a field: its name, `: `, its value, CRLF
abbrev pub field_line : Field → List ℕ
field_line field = field.0 ++ codes ": " ++ field.1 ++ crlf

-- the last field: how many bytes the block has (§5.3)
abbrev pub length_field : List ℕ → Field
length_field block = (codes "Content-Length", decimal (length block))

-- the version, the fields and the length of the block, an empty line, the block, two ends of lines
abbrev pub record_text : List Field → List ℕ → List ℕ
record_text fields block =
    codes "WARC/1.1" ++ crlf
    ++ flat_map field_line fields ++ field_line (length_field block) ++ crlf
    ++ block ++ crlf ++ crlf

-- what stands between the parts of a record's name
abbrev pub slash : ℕ
slash = 47

-- the name of a record: JOB/FILE/OFFSET/KIND
abbrev pub record_name : Naming → List ℕ → List ℕ
record_name place kind = join_with_byte slash (place.job ∷ decimal place.file ∷ decimal place.at ∷ kind ∷ [])

-- the version 5 UUID of a name, in the namespace of URLs (RFC 9562 §5.5), in lower case with hyphens
unfoldable pub uuid_text : List ℕ → List ℕ
uuid_text name =
    hyphenated_text lower (with_version (with_variant (take 16 (sha1 (namespace_url ++ name))) RFC4122) Sha1)

-- the id of a record (§5.2): that UUID of its name, as <urn:uuid:..>
abbrev pub record_id : Naming → List ℕ → List ℕ
record_id place kind = codes "<urn:uuid:" ++ uuid_text (record_name place kind) ++ codes ">"

-- the fields of a response (§6.3) but the last: its address, its date, the digests of its payload and of its block, its id
abbrev pub response_fields : List ℕ → List ℕ → List ℕ → List ℕ → List ℕ → List Field
response_fields uri date digest block_digest id =
    (codes "WARC-Type", codes "response")
    ∷ (codes "WARC-Target-URI", uri)
    ∷ (codes "WARC-Date", date)
    ∷ (codes "WARC-Payload-Digest", digest)
    ∷ (codes "WARC-Block-Digest", block_digest)
    ∷ (codes "WARC-Record-ID", id)
    ∷ (codes "Content-Type", codes "application/http; msgtype=response")
    ∷ []

-- the record of a response: its block has the digest that is computed from it
abbrev pub response_record : Naming → List ℕ → List ℕ → List ℕ → List ℕ → List ℕ
response_record place uri date digest block =
    record_text (response_fields uri date digest (digest_text block) (record_id place (codes "response"))) block

-- the record of a response whose fetch began at a moment, in milliseconds since 1970
pub record IsResponseRecord (place : Naming) (uri : List ℕ) (start : ℕ) (digest block bytes : List ℕ) : Type 0 where
  pub date : List ℕ
  pub dated : IsDateOf start date
  pub written : bytes ≡ response_record place uri date digest block
