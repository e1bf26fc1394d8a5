-- The files of a volume in memory.
--     same_file a b      whether two names are one
--     file_bytes files id      what a list of files holds under a name
use Rattle.std.specs.Prelude.{ℕ, Bool, true, false, nat_eq, if◌then◌else◌, List, [], ◌∷◌}
use Rattle.crawl_traits.specs.declared.file.FileId.{FileId}
use Rattle.crawl_traits.specs.declared.file.FileId.TheVariants.{Job, Manifest, Journal, Checkpoint, Warc}
use Rattle.crawl_memory.specs.declared.file.MemFile.{MemFile}

abbrev pub same_file : FileId → FileId → Bool
same_file Job Job = true
same_file Manifest Manifest = true
same_file (Journal a) (Journal b) = nat_eq a b
same_file (Checkpoint a) (Checkpoint b) = nat_eq a b
same_file (Warc a) (Warc b) = nat_eq a b
same_file _ _ = false

-- the bytes of the first file of this name; a file that is not there holds nothing
abbrev pub file_bytes : List MemFile → FileId → List ℕ
file_bytes [] id = []
file_bytes (f ∷ files) id = if same_file f.id id then f.bytes.items else file_bytes files id
