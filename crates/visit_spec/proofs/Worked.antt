-- The rows are computed.
use Rattle.std.proofs.Common.{◌≡◌, List, [], ◌∷◌, ◌++◌, refl, ap}
use Rattle.std.specs.Prelude.{flat_map}
use Rattle.std.specs.Fmt.{digits}
use Rattle.visit_spec.specs.Lines.{line_of, log_line}
use Rattle.visit_spec.specs.Visits.{Visit, events, log}
use Rattle.visit_spec.specs.Worked.{AreWorked}

-- an Emit has no line, and a Finish has that of its visit
lines-events : (visits : List Visit) → flat_map log_line (events visits) ≡ log visits
lines-events [] = refl
lines-events (v ∷ visits) = ap (λ zs. line_of v.done.ending.outcome v.done.ending.code v.one.work.item.uri ++ zs) (lines-events visits)

pub worked : AreWorked
unfolding digits
worked =
    record {
      of_one = λ settings. refl;
      output = λ settings. refl;
      failure = refl;
      output_of = lines-events;
      archive = λ settings. refl;
      next = λ settings. refl;
      unrecorded = λ settings edge. refl;
      unnamed = λ settings edge own bytes is. is;
    }
