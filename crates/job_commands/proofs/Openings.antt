-- What an opening leaves, over any volume.
use Rattle.std.proofs.Common.{◌≡◌, ℕ, List, [], ◌∷◌, sym, subst}
use Rattle.crawl_kinds.specs.declared.event.Event.{Event}
use Rattle.crawl_traits.specs.Images.{Image}
use Rattle.frontier_memo.specs.Fits.{AllFit}
use Rattle.recover_journal.specs.Holds.{journal_file, Holds, HoldsEvents}
use Rattle.crawl_traits.specs.declared.file.FileId.TheVariants as file
use Rattle.gate_log.specs.Blocks.{Counts}
use Rattle.job_order.specs.declared.read.Job.{Job}
use Rattle.open_crawl.specs.JobFile.{IsTextOfJob}
use Rattle.job_commands.specs.Opened.{Found, KeepsJob}

-- two lists that a file holds are one
abbrev pub OneList : Type 0
OneList = (events others : List Event) (gates places : List ℕ) (file : List ℕ) → Holds events gates file → Holds others places file → (events ≡ others) × (gates ≡ places)

pub same_events : OneList → (events others : List Event) (file : List ℕ) → HoldsEvents events file → HoldsEvents others file → others ≡ events
same_events one events others file holds other = sym ((one events others holds.0 other.0 file holds.1 other.1).0)

-- the events that were read fit
abbrev pub found_here : OneList → (image : Image) (events others : List Event) → HoldsEvents events (image journal_file) → HoldsEvents others (image journal_file) → AllFit others → Found image
found_here one image events others holds other fit =
    record { events = events; holds = holds; fit = subst AllFit (same_events one events others (image journal_file) holds other) fit }

-- the job that was read is kept
pub kept_then : (then before : Image) (job : Job) → then ≡ before → (text : List ℕ) × Counts (text ∷ []) (before file.Job) × IsTextOfJob text job → KeepsJob then job
kept_then then before job same read = record { text = read.0; counts = subst (λ (i : Image). Counts (read.0 ∷ []) (i file.Job)) (sym same) read.1; is = read.2 }
