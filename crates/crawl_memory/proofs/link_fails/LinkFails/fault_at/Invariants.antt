use Rattle.std.proofs.Common.{◌≡◌, drop}
use Rattle.crawl_memory.specs.LinkFails.{fault_at}
use Rattle.crawl_memory.proofs.link_fails.LinkFails.fault_at.Given as goal

abbrev pub invariant-loop-entry : goal.invariant-loop-entry
invariant-loop-entry l = fault_at l.number l.self.listed.items ≡ fault_at l.number (drop l.entry-index l.self.listed.items)
