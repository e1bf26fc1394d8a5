-- The pages of a crawl: what its history takes from responses and from their records.
--     link_of found      a link, as a history has it
--     IsBodyOf block h payload body      size, type and digest are those of the block
--     IsEndOf limit block h payload end      what an end says of the response is so
--     place_after edge, spot_at place len      where the next record stands, and its spot
--     ArePages settings pages      of each block with a head the pages say what is defined for responses and records
use Rattle.std.specs.Prelude.{◌≡◌, ◌↔◌, ℕ, pos, List, map, length, Option, Some, None, IsTrue}
use Rattle.httparse.specs.Grammar.{ResponseHead, status_code}
use Rattle.crawl_kinds.specs.declared.event.Body.{Body}
use Rattle.crawl_kinds.specs.declared.event.End.{End}
use Rattle.crawl_kinds.specs.declared.event.Fetch.{Fetch}
use Rattle.crawl_kinds.specs.declared.event.Spot.{Spot}
use Rattle.crawl_kinds.specs.declared.settings.Settings.{Settings}
use Rattle.crawl_kinds.specs.declared.snapshot.Edge.{Edge}
use Rattle.crawl_kinds.specs.Event.{Finishing}
use Rattle.crawl_history.specs.Facts.{Link}
use Rattle.page_spec.specs.Fields.{media_of}
use Rattle.page_spec.specs.Response.{fields_of, IsHead, IsWholeOf}
use Rattle.extract_spec.specs.Links.{links_of}
use Rattle.extract_spec.specs.declared.found.Found.{Found}
use Rattle.record_spec.specs.Base32.{digest_text}
use Rattle.record_spec.specs.Record.{IsResponseRecord}
use Rattle.record_spec.specs.declared.naming.Naming.{Naming}
use Rattle.core_facts.specs.CoreFacts.{Pages}

-- a link, as a history has it
abbrev pub link_of : Found → Link
link_of found = record { letter = found.letter; uri = found.uri }

-- size, type and digest of the payload are those of the block
pub record IsBodyOf (block : List ℕ) (h : ResponseHead) (payload : List ℕ) (body : Body) : Type 0 where
  pub size : body.size ≡ length block
  pub media : body.media ≡ media_of (fields_of h)
  pub digest : body.digest ≡ digest_text payload

-- the block is a whole response, of which the end says status, size, type and digest; so nothing of it was cut off
pub record IsEndOf (limit : ℕ) (block : List ℕ) (h : ResponseHead) (payload : List ℕ) (end : End) : Type 0 where
  pub whole : IsWholeOf limit block h payload
  pub status : end.code ≡ pos (status_code h)
  pub body : (body : Body) × (end.body ≡ Some body) × IsBodyOf block h payload body
  pub uncut : end.notes.cut ≡ None

-- records stand one behind another in the first file, the first at its front
abbrev pub place_after : Option Edge → Edge
place_after None = record { file = 0; end = 0 }
place_after (Some edge) = edge

-- the spot of a record of so many bytes
abbrev pub spot_at : Edge → ℕ → Spot
spot_at place len = record { file = place.file; at = place.end; len = len }

-- what the id of a record is made from, by the place of the record
abbrev pub naming_at : Settings → Edge → Naming
naming_at settings place = record { job = settings.name; file = place.file; at = place.end }

-- the bytes are the record of the response that a finish recorded with this block and this payload, at the place
abbrev pub IsRecordFor : Settings → Edge → Finishing → Fetch → List ℕ → List ℕ → List ℕ → Type 0
IsRecordFor settings place c fetch block payload bytes =
    IsResponseRecord (naming_at settings place) c.item.uri fetch.start (digest_text payload) block bytes

-- Heads are relations, so the pages are any that agree with them. Nothing is asked of a block without a head: none is
-- recorded.
pub record ArePages (settings : Settings) (pages : Pages) : Type 0 where
  pub payload : (block : List ℕ) (h : ResponseHead) (rest : List ℕ) → IsHead block h rest → pages.payload block ≡ rest
  pub links :
      (uri block : List ℕ) (h : ResponseHead) (rest : List ℕ) → IsHead block h rest
      → pages.links uri block ≡ map link_of (links_of uri (status_code h) (fields_of h) rest)
  pub fits :
      (uri block : List ℕ) (end : End) (h : ResponseHead) (rest : List ℕ) → IsHead block h rest
      → IsTrue (pages.fits uri block end) ↔ IsEndOf settings.max_response_bytes block h rest end
  -- the record of a response goes behind the last cited one
  pub next_spot :
      (edge : Option Edge) (c : Finishing) (fetch : Fetch) (block : List ℕ) (h : ResponseHead) (rest bytes : List ℕ)
      → c.end.fetch ≡ Some fetch → IsHead block h rest → IsRecordFor settings (place_after edge) c fetch block rest bytes
      → pages.next_spot edge c block ≡ spot_at (place_after edge) (length bytes)
