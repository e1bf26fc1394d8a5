use Rattle.std.proofs.Common.{◌≡◌, ℕ, ◌<◌, get_or, false}
use Rattle.crawl_memory.specs.declared.file.MemFile.{MemFile}
use Rattle.crawl_memory.specs.Files.{same_file}
use Rattle.crawl_memory.proofs.files.write_file.Given as goal

abbrev pub invariant-loop-i : goal.invariant-loop-i
invariant-loop-i l = record {
  same : l.files.items ≡ l.fn.files.items;
  passed : (k : ℕ) (d : MemFile) → k < l.i → same_file (get_or l.files.items k d).id l.id ≡ false;
}
