use Rattle.std.proofs.Common.{length, OnOk, sym, ◌∙◌, subst}
use Rattle.crawl_traits.specs.Images.{Image, Only, TornWrite, After}
use Rattle.crawl_traits.proofs.Steps.{torn_same, stays}
use Rattle.crawl_traits.proofs.Moments.{started, goes_on}
use Rattle.crawl_traits.proofs.synced_write.write_synced.Goals as goal

pub returns-in_err-write_at-clause-any_moment : goal.returns-in_err-write_at-clause-any_moment
returns-in_err-write_at-clause-any_moment g c =
    let old = c.args.volume.now in
    let n = length c.args.from.now in
    let step = TornWrite c.args.at n in
    let P = After c.args.file step (g.V.Volume.may_leave old) in
    let at_start = started g.V.Volume old P (λ i left. stays c.args.file step _ i (g.met.V.Volume.only_now old i left) (torn_same c.args.at n (i c.args.file))) in
    goes_on g.V.Volume old old c.write_at.new.self P _ at_start c.write_at.ensures.time c.write_at.ensures.crash

pub returns-clause-durable : goal.returns-clause-durable
returns-clause-durable g c told =
    subst (λ (i : Image). OnOk c.sync.result (Only c.args.file (i c.args.file) (g.V.Volume.may_leave c.sync.new.self))) (sym c.sync.ensures.contents)
    (c.sync.ensures.durable (c.in_ok-write_at.ensures.tells ∙ told))

pub returns-clause-any_moment : goal.returns-clause-any_moment
returns-clause-any_moment g c =
    let old = c.args.volume.now in
    let n = length c.args.from.now in
    let step = TornWrite c.args.at n in
    let P = After c.args.file step (g.V.Volume.may_leave old) in
    let at_start = started g.V.Volume old P (λ i left. stays c.args.file step _ i (g.met.V.Volume.only_now old i left) (torn_same c.args.at n (i c.args.file))) in
    let wrote = goes_on g.V.Volume old old c.write_at.new.self P _ at_start c.write_at.ensures.time c.write_at.ensures.crash in
    goes_on g.V.Volume old c.write_at.new.self c.sync.new.self P _ wrote c.sync.ensures.time (λ i now. c.write_at.ensures.crash i (c.sync.ensures.crash i now))
