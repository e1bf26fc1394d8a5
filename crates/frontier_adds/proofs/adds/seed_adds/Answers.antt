use Rattle.std.proofs.Common.{List, sym, subst, ap, ◌∙◌}
use Rattle.std.specs.Prelude.{All}
use Rattle.std.proofs.lemmas.List.Elements.{All-map}
use Rattle.std.proofs.lemmas.Result.{IfOk-weaker}
use Rattle.crawl_kinds.specs.Address.{IsUri}
use Rattle.crawl_kinds.specs.declared.item.Item.{Item}
use Rattle.frontier_adds.specs.Candidates.{seed_item, taken}
use Rattle.frontier_adds.proofs.Adding.{seeds_same}
use Rattle.frontier_adds.proofs.Fresh.{taken_absent, taken_new}
use Rattle.frontier_adds.proofs.Leading.{seeds_spelled}
use Rattle.frontier_adds.proofs.adds.seed_adds.Goals as goal

pub taken-requires : goal.taken-requires
taken-requires c =
    subst (λ (items : List Item). All (λ (i : Item). IsUri i.uri) items) (sym (c.as_slice.ensures ∙ c.in_ok-candidates.ensures))
    (All-map (λ (i : Item). IsUri i.uri) seed_item c.args.list.now c.requires)

pub returns-clause-same : goal.returns-clause-same
returns-clause-same c =
    IfOk-weaker c.taken.result _ _
    (λ items is s pages h keeps.
    is ∙ ap (taken c.args.places.now c.args.scope.now) (c.as_slice.ensures ∙ c.in_ok-candidates.ensures)
    ∙ seeds_same s c.args.scope.now pages h c.args.places.now keeps c.args.list.now)
    c.taken.ensures

pub returns-clause-fresh : goal.returns-clause-fresh
returns-clause-fresh c =
    IfOk-weaker c.taken.result _ _ (λ items is h keeps. taken_new c.args.places.now c.args.scope.now c.as_slice.result.now items h is keeps) c.taken.ensures

pub returns-clause-absent : goal.returns-clause-absent
returns-clause-absent c =
    IfOk-weaker c.taken.result _ _ (λ items is h keeps. taken_absent c.args.places.now c.args.scope.now c.as_slice.result.now items h is keeps) c.taken.ensures

pub returns-clause-valid : goal.returns-clause-valid
returns-clause-valid c =
    IfOk-weaker c.taken.result _ _
    (λ items is s pages h keeps.
    seeds_spelled c.items_are_valid.ensures c.valid_is_computed.ensures s c.args.scope.now pages h c.args.list.now items c.requires
    (is ∙ ap (taken c.args.places.now c.args.scope.now) (c.as_slice.ensures ∙ c.in_ok-candidates.ensures)
    ∙ seeds_same s c.args.scope.now pages h c.args.places.now keeps c.args.list.now))
    c.taken.ensures
