-- What a history takes from outside: the facts of addresses, scopes, robots files and pages, as one record of
-- functions, and the archive that holds the pages. Whatever they are, the laws of a history hold.
use Rattle.std.specs.Prelude.{ℕ, Bool, List, Option}
use Rattle.crawl_kinds.specs.declared.settings.Settings.{Settings}
use Rattle.crawl_kinds.specs.declared.event.Spot.{Spot}
use Rattle.crawl_kinds.specs.declared.event.End.{End}
use Rattle.crawl_kinds.specs.declared.event.Event.{Event}
use Rattle.crawl_kinds.specs.declared.snapshot.Edge.{Edge}
use Rattle.crawl_kinds.specs.Event.{Finishing}

-- a link of a page: the letter of its hop and its address
pub record Link : Type 0 where
  pub letter : ℕ
  pub uri : List ℕ

-- the block of the response record that stands at a spot; empty where none is read there
abbrev pub Archive : Type 0
Archive = Spot → List ℕ

pub record Facts : Type 0 where
  -- the settings of the job
  pub settings : Settings
  -- the key of an address that was found on this path
  pub key_of : List ℕ → List ℕ → List ℕ
  -- the class of an address: the name of its queue
  pub class_of : List ℕ → List ℕ
  -- the address of its robots file
  pub robots_uri : List ℕ → List ℕ
  -- whether its scheme is https
  pub is_secure : List ℕ → Bool
  -- whether the scope of this number accepts an address that was found on this path
  pub accepts : ℕ → List ℕ → List ℕ → Bool
  -- whether this text of a robots file allows an address
  pub allows : List ℕ → List ℕ → Bool
  -- the delay in seconds that this text of a robots file asks for
  pub delay : List ℕ → Option ℕ
  -- whether the journal spells this event out whole
  pub is_valid : Event → Bool
  -- the payload of a block
  pub payload : List ℕ → List ℕ
  -- the links of the page at an address with this block, in order
  pub links : List ℕ → List ℕ → List Link
  -- whether status, size, type, digest and cut of an end are those of this block of an address
  pub fits : List ℕ → List ℕ → End → Bool
  -- where the records of a finish with this block go, after the last cited record
  pub next_spot : Option Edge → Finishing → List ℕ → Spot
