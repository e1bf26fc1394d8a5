use Rattle.std.proofs.Common.{◌≡◌, drop}
use Rattle.crawl_memory.specs.Files.{file_bytes}
use Rattle.crawl_memory.proofs.files.bytes_of.Given as goal

abbrev pub invariant-loop-file : goal.invariant-loop-file
invariant-loop-file l = file_bytes l.files l.id ≡ file_bytes (drop l.file-index l.files) l.id
