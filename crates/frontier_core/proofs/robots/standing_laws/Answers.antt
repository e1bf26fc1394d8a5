use Rattle.frontier_core.proofs.Standing.{fresh_session, stands_still}
use Rattle.frontier_core.proofs.robots.standing_laws.Goals as goal

pub returns : goal.returns
returns c = record { fresh = fresh_session; still = λ pages a core e goes ends is. stands_still pages a core e goes is ends }
