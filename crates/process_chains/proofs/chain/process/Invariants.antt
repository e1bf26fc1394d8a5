use Rattle.std.proofs.Common.{◌≡◌, ◌≤◌}
use Rattle.crawl_kinds.specs.declared.event.Verdict.TheVariants.{Allowed}
use Rattle.crawl_traits.specs.declared.link.LinkFault.{LinkFault}
use Rattle.process_chains.specs.Drafts.{Stands, reached}
use Rattle.process_chains.proofs.chain.process.Given as goal

abbrev pub invariant-loop-step : goal.invariant-loop-step
invariant-loop-step g l = record {
  stands : Stands g.L.Link (g.C.Clock.gives l.clock) l.settings l.work l.fn.link l.link l.draft;
  past : l.step-index ≤ reached l.draft;
  untouched : ¬ (l.work.verdict ≡ Allowed) → l.link ≡ l.fn.link;
  tells : g.L.Link.tells l.link ≡ g.L.Link.tells l.fn.link;
  later : (fault : LinkFault) → g.L.Link.faults l.fn.link fault ≤ g.L.Link.faults l.link fault;
}
