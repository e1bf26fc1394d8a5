-- The archive of a crawl: the blocks of the records that its WARC files hold.
--     part files spot      the bytes of the files at a spot
--     IsBlockAt settings files spot block      the record of a response stands there, and this is its block
--     IsArchive settings files a      the archive has the block of each such record
use Rattle.std.specs.Prelude.{◌≡◌, ℕ, List, take, drop}
use Rattle.crawl_kinds.specs.Address.{IsUri}
use Rattle.crawl_kinds.specs.declared.event.Spot.{Spot}
use Rattle.crawl_kinds.specs.declared.settings.Settings.{Settings}
use Rattle.crawl_history.specs.Facts.{Archive}
use Rattle.record_spec.specs.Base32.{digest_text}
use Rattle.record_spec.specs.Record.{IsResponseRecord}
use Rattle.crawl_facts.specs.Pages.{naming_at}

-- the bytes at a spot of the files, by their numbers
abbrev pub part : (ℕ → List ℕ) → Spot → List ℕ
part files spot = take spot.len (drop spot.at (files spot.file))

-- the record of the response of an address stands at the spot, under the id of that place, and this is its block
pub record IsBlockAt (settings : Settings) (files : ℕ → List ℕ) (spot : Spot) (block : List ℕ) : Type 0 where
  pub uri : List ℕ
  pub start : ℕ
  pub payload : List ℕ
  pub address : IsUri uri
  pub written :
      IsResponseRecord (naming_at settings (record { file = spot.file; end = spot.at })) uri start (digest_text payload) block (part files spot)

-- the archive has the block of each record of a response
abbrev pub IsArchive : Settings → (ℕ → List ℕ) → Archive → Type 0
IsArchive settings files a = (spot : Spot) (block : List ℕ) → IsBlockAt settings files spot block → a spot ≡ block
