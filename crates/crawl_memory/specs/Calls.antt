-- What recorded calls leave. In each list the newest call stands first.
--     contents_after calls      what the files hold after all calls
--     MayLeave calls image      what a crash may leave after all calls
--     LeftSince calls t image      what a crash may have left after the first t calls, or after more of them
use Rattle.std.specs.Prelude.{◌≡◌, ℕ, ◌+◌, ◌≤◌, List, [], ◌∷◌, length, take, drop, reverse, if◌then◌else◌}
use Rattle.crawl_traits.specs.Images.{Image, written, TornWrite, TornCut, After}
use Rattle.crawl_traits.specs.declared.file.FileId.{FileId}
use Rattle.crawl_memory.specs.declared.call.Call.{Call}
use Rattle.crawl_memory.specs.declared.call.Call.TheVariants.{Write, Cut, Sync}
use Rattle.crawl_memory.specs.Files.{same_file}

-- what a file holds after one call more
abbrev pub applied : Call → FileId → List ℕ → List ℕ
applied (Write in_file at bytes) file old = if same_file file in_file then written at bytes old else old
applied (Cut in_file to) file old = if same_file file in_file then take to old else old
applied (Sync in_file) file old = old

abbrev pub contents_after : List Call → Image
contents_after [] file = []
contents_after (call ∷ before) file = applied call file (contents_after before file)

-- a call leaves its step of each earlier image; a sync leaves those that hold the file as a read gives it
abbrev pub MayLeave : List Call → Image → Type 0
MayLeave [] image = (file : FileId) → image file ≡ []
MayLeave (Write in_file at bytes ∷ before) image = After in_file (TornWrite at (length bytes)) (MayLeave before) image
MayLeave (Cut in_file to ∷ before) image = After in_file (TornCut to) (MayLeave before) image
MayLeave (Sync in_file ∷ before) image = MayLeave before image × (image in_file ≡ contents_after before in_file)

abbrev pub LeftSince : List Call → ℕ → Image → Type 0
LeftSince calls t image = (newer : ℕ) × (newer + t ≤ length calls) × MayLeave (drop newer calls) image

-- a record of calls in their order, the newest first
abbrev pub newest_first : List Call → List Call
newest_first calls = reverse calls
