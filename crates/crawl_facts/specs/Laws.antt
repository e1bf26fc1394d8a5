-- What follows from the definitions.
--     ThereArePages      for every job there are pages that agree
--     BehindIsHeld      what is written behind the bytes of a file is held by its archives
use Rattle.std.specs.Prelude.{◌≡◌, ℕ, List, ◌++◌, length}
use Rattle.crawl_kinds.specs.Address.{IsUri}
use Rattle.crawl_kinds.specs.declared.settings.Settings.{Settings}
use Rattle.crawl_kinds.specs.declared.snapshot.Edge.{Edge}
use Rattle.crawl_history.specs.Facts.{Archive}
use Rattle.core_facts.specs.CoreFacts.{Pages}
use Rattle.record_spec.specs.Base32.{digest_text}
use Rattle.record_spec.specs.Record.{IsResponseRecord}
use Rattle.crawl_facts.specs.Pages.{ArePages, naming_at, spot_at}
use Rattle.crawl_facts.specs.Archives.{IsArchive}

-- for every job there are pages that agree with the definitions
abbrev pub ThereArePages : Type 0
ThereArePages = (settings : Settings) → (pages : Pages) × ArePages settings pages

-- a record that stands in its file behind what was there is held by every archive of the files, whatever follows it
abbrev pub BehindIsHeld : Type 0
BehindIsHeld =
    (settings : Settings) (files : ℕ → List ℕ) (a : Archive) (place : Edge) (before bytes after uri block payload : List ℕ) (start : ℕ)
    → IsArchive settings files a → files place.file ≡ before ++ (bytes ++ after) → length before ≡ place.end → IsUri uri
    → IsResponseRecord (naming_at settings place) uri start (digest_text payload) block bytes
    → a (spot_at place (length bytes)) ≡ block
