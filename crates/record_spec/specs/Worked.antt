-- Worked examples of the definitions.
use Rattle.std.specs.Prelude.{◌≡◌, ℕ, List, [], ◌∷◌, ◌++◌, codes}
use Rattle.record_spec.specs.Base32.{base32}
use Rattle.record_spec.specs.Date.{IsDateOf}
use Rattle.record_spec.specs.Record.{record_text, record_name, crlf}

-- the SHA-1 of the empty text
abbrev pub empty_sha1 : List ℕ
empty_sha1 =
    0xda ∷ 0x39 ∷ 0xa3 ∷ 0xee ∷ 0x5e ∷ 0x6b ∷ 0x4b ∷ 0x0d ∷ 0x32 ∷ 0x55
    ∷ 0xbf ∷ 0xef ∷ 0x95 ∷ 0x60 ∷ 0x18 ∷ 0x90 ∷ 0xaf ∷ 0xd8 ∷ 0x07 ∷ 0x09 ∷ []

-- a record of one field and a block of two bytes
abbrev pub short_record : List ℕ
short_record =
    codes "WARC/1.1" ++ crlf ++ codes "A: b" ++ crlf ++ codes "Content-Length: 2" ++ crlf ++ crlf ++ codes "hi" ++ crlf ++ crlf

pub record AreWorked : Type 0 where
  pub nothing : base32 [] ≡ []
  pub one_group : base32 (codes "fooba") ≡ codes "MZXW6YTB"
  pub four_groups : base32 empty_sha1 ≡ codes "3I42H3S6NNFQ2MSVX7XZKYAYSCX5QBYJ"
  pub name : record_name (record { job = codes "sample"; file = 0; at = 386 }) (codes "response") ≡ codes "sample/0/386/response"
  pub short : record_text ((codes "A", codes "b") ∷ []) (codes "hi") ≡ short_record
  pub epoch : IsDateOf 0 (codes "1970-01-01T00:00:00.000Z")
  pub test_start : IsDateOf 1700000000000 (codes "2023-11-14T22:13:20.000Z")
  pub leap_day : IsDateOf 1709164800001 (codes "2024-02-29T00:00:00.001Z")
  pub last_of_year : IsDateOf 1735689599999 (codes "2024-12-31T23:59:59.999Z")
  pub latest : IsDateOf 253402000000000 (codes "9999-12-28T12:26:40.000Z")
