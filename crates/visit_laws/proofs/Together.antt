-- All the laws of visits behind visits, over the worlds of a link and a clock.
use Rattle.std.proofs.Common.{ℕ}
use Rattle.crawl_traits.specs.declared.link.Link.{Ghosts as LinkGhosts}
use Rattle.crawl_traits.specs.declared.volume.Volume.{Ghosts}
use Rattle.history_steps.specs.ScansStep.{ScansStep}
use Rattle.visit_laws.specs.Laws.{VisitLaws, world_in}
use Rattle.visit_laws.proofs.Behind.{keeps-behind}
use Rattle.visit_laws.proofs.Carrying.{carry_refused}
use Rattle.visit_laws.proofs.Onward.{first_within, second_within}
use Rattle.visit_laws.proofs.Placing.{place-visits}
use Rattle.visit_laws.proofs.Standing.{keeps-ends, keeps-none}

pub visit_laws : {V C L : Type 0} (of : Ghosts V) (link : LinkGhosts L) (gives : C → ℕ → Type 0) → ScansStep → VisitLaws of link gives
visit_laws of link gives scans =
    record {
      within =
          λ clock own settings start middle now same to from. (
            first_within link (gives clock) own settings start middle now same to from,
            second_within link (gives clock) own settings start middle now same to,
          );
      place = λ time. place-visits scans (world_in link gives time);
      ends = λ time. keeps-ends of scans (world_in link gives time);
      none = λ time. keeps-none of (world_in link gives time);
      behind = λ first second whole. keeps-behind of scans (world_in link gives first) (world_in link gives second) (world_in link gives whole);
      refused = λ part whole core known adds seen within. carry_refused (world_in link gives part) (world_in link gives whole) within core known adds seen;
    }
