use Rattle.std.proofs.Common.{◌∙◌}
use Rattle.std.proofs.lemmas.Result.{IfOk-weaker}
use Rattle.frontier_adds.proofs.Adding.{adds_same}
use Rattle.frontier_adds.proofs.Fewer.{few_adds}
use Rattle.frontier_adds.proofs.Fresh.{kept_new}
use Rattle.frontier_adds.proofs.Leading.{adds_spelled}
use Rattle.frontier_adds.proofs.adds.finish_adds.Goals as goal

pub returns-clause-same : goal.returns-clause-same
returns-clause-same c =
    IfOk-weaker c.kept_adds.result _ _
    (λ items is s pages a h own keeps item end shown.
    is ∙ adds_same s c.args.scope.now pages h c.args.places.now keeps a own c.args.links.now shown c.args.work.now.item c.args.end.now c.args.work.now.verdict item end)
    c.kept_adds.ensures

pub returns-clause-fresh : goal.returns-clause-fresh
returns-clause-fresh c =
    IfOk-weaker c.kept_adds.result _ _
    (λ items is h keeps. kept_new c.args.places.now c.args.scope.now c.args.work.now.item c.args.end.now c.args.links.now c.args.work.now.verdict items h is keeps)
    c.kept_adds.ensures

pub returns-clause-few : goal.returns-clause-few
returns-clause-few c =
    IfOk-weaker c.kept_adds.result _ _
    (λ items is. few_adds c.args.places.now c.args.scope.now c.args.links.now c.args.work.now.item c.args.end.now c.args.work.now.verdict items is)
    c.kept_adds.ensures

pub returns-clause-valid : goal.returns-clause-valid
returns-clause-valid c =
    IfOk-weaker c.kept_adds.result _ _
    (λ items is s h keeps spelled.
    adds_spelled c.items_are_valid.ensures s c.args.scope.now h c.args.places.now keeps c.args.links.now c.args.work.now.verdict c.args.work.now.item c.args.end.now items
    c.requires.links c.requires.uri is spelled)
    c.kept_adds.ensures
