use Rattle.std.proofs.Common.{OnOk, sym, ◌∙◌, subst}
use Rattle.crawl_traits.specs.Images.{Image, Only, TornCut, After}
use Rattle.crawl_traits.proofs.Steps.{cut_same, stays}
use Rattle.crawl_traits.proofs.Moments.{started, goes_on}
use Rattle.crawl_traits.proofs.synced_cut.cut_synced.Goals as goal

pub returns-in_err-cut-clause-any_moment : goal.returns-in_err-cut-clause-any_moment
returns-in_err-cut-clause-any_moment g c =
    let old = c.args.volume.now in
    let step = TornCut c.args.to in
    let P = After c.args.file step (g.V.Volume.may_leave old) in
    let at_start = started g.V.Volume old P (λ i left. stays c.args.file step _ i (g.met.V.Volume.only_now old i left) (cut_same c.args.to (i c.args.file))) in
    goes_on g.V.Volume old old c.cut.new.self P _ at_start c.cut.ensures.time c.cut.ensures.crash

pub returns-clause-durable : goal.returns-clause-durable
returns-clause-durable g c told =
    subst (λ (i : Image). OnOk c.sync.result (Only c.args.file (i c.args.file) (g.V.Volume.may_leave c.sync.new.self))) (sym c.sync.ensures.contents)
    (c.sync.ensures.durable (c.in_ok-cut.ensures.tells ∙ told))

pub returns-clause-any_moment : goal.returns-clause-any_moment
returns-clause-any_moment g c =
    let old = c.args.volume.now in
    let step = TornCut c.args.to in
    let P = After c.args.file step (g.V.Volume.may_leave old) in
    let at_start = started g.V.Volume old P (λ i left. stays c.args.file step _ i (g.met.V.Volume.only_now old i left) (cut_same c.args.to (i c.args.file))) in
    let wrote = goes_on g.V.Volume old old c.cut.new.self P _ at_start c.cut.ensures.time c.cut.ensures.crash in
    goes_on g.V.Volume old c.cut.new.self c.sync.new.self P _ wrote c.sync.ensures.time (λ i now. c.cut.ensures.crash i (c.sync.ensures.crash i now))
