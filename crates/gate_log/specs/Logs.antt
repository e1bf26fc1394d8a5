-- A log at hand.
use Rattle.std.specs.Prelude.{ℕ, List}
use Rattle.crawl_traits.specs.declared.file.FileId.{FileId}
use Rattle.crawl_traits.specs.declared.volume.Volume.{Ghosts}
use Rattle.gate_log.specs.declared.log.GateLog.{GateLog}
use Rattle.gate_log.specs.Rest.{RestsAt}

-- the file that it stands in
abbrev pub file_of : GateLog → FileId
file_of log = log.file

-- its file holds these blocks, on the disk of an honest volume, and it knows the place of the next gate
abbrev pub IsAtRest : {V : Type 0} → Ghosts V → GateLog → V → List (List ℕ) → Type 0
IsAtRest of log volume bodies = RestsAt of volume log.file log.gate bodies
