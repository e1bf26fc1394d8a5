use Rattle.std.proofs.Common.{arith}
use Rattle.crawl_traits.specs.Images.{TornCut, TornWrite, After}
use Rattle.crawl_traits.proofs.Moments.{started, goes_on, weaker, joined}
use Rattle.crawl_traits.proofs.Steps.{stays}
use Rattle.gate_log.specs.Rest.{Emptied}
use Rattle.gate_log.proofs.FreshRun.{step_as, steps_as, cut_empties, write_empties}
use Rattle.gate_log.proofs.log.GateLog.fresh.Goals as goal

pub returns-in_err-cut-clause-any_moment : goal.returns-in_err-cut-clause-any_moment
returns-in_err-cut-clause-any_moment g c =
    let of = g.V.Volume in
    let old = c.args.volume.now in
    let P = After c.args.file Emptied (of.may_leave old) in
    let at_start = started of old P (λ i left. stays c.args.file Emptied _ i (g.met.V.Volume.only_now old i left) (omega arith)) in
    goes_on of old old c.cut.new.self P _ at_start c.cut.ensures.time (λ i now. step_as c.args.file (TornCut 0) Emptied _ cut_empties i (c.cut.ensures.crash i now))

pub returns-in_err-write_synced-clause-any_moment :
    goal.returns-in_err-write_synced-clause-any_moment
returns-in_err-write_synced-clause-any_moment g c =
    let of = g.V.Volume in
    let old = c.args.volume.now in
    let P = After c.args.file Emptied (of.may_leave old) in
    let at_start = started of old P (λ i left. stays c.args.file Emptied _ i (g.met.V.Volume.only_now old i left) (omega arith)) in
    let cut = goes_on of old old c.cut.new.self P _ at_start c.cut.ensures.time (λ i now. step_as c.args.file (TornCut 0) Emptied _ cut_empties i (c.cut.ensures.crash i now)) in
    joined of old c.cut.new.self c.write_synced.new.volume P cut (weaker of c.cut.new.self c.write_synced.new.volume _ P (steps_as c.args.file (TornCut 0) (TornWrite 0 1) Emptied (of.may_leave old) (of.may_leave c.cut.new.self) write_empties c.cut.ensures.crash) c.write_synced.ensures.any_moment)

pub returns-clause-any_moment : goal.returns-clause-any_moment
returns-clause-any_moment g c =
    let of = g.V.Volume in
    let old = c.args.volume.now in
    let P = After c.args.file Emptied (of.may_leave old) in
    let at_start = started of old P (λ i left. stays c.args.file Emptied _ i (g.met.V.Volume.only_now old i left) (omega arith)) in
    let cut = goes_on of old old c.cut.new.self P _ at_start c.cut.ensures.time (λ i now. step_as c.args.file (TornCut 0) Emptied _ cut_empties i (c.cut.ensures.crash i now)) in
    joined of old c.cut.new.self c.write_synced.new.volume P cut (weaker of c.cut.new.self c.write_synced.new.volume _ P (steps_as c.args.file (TornCut 0) (TornWrite 0 1) Emptied (of.may_leave old) (of.may_leave c.cut.new.self) write_empties c.cut.ensures.crash) c.write_synced.ensures.any_moment)
