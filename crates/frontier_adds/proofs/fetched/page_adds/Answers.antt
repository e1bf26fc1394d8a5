use Rattle.std.proofs.Common.{◌<◌, ◌≤◌, true, List, length, subst, sym, ◌∙◌}
use Rattle.std.specs.Prelude.{All, MatchBool}
use Rattle.crawl_kinds.specs.Address.{IsUri}
use Rattle.crawl_history.specs.Scope.{most_letters}
use Rattle.crawl_kinds.specs.declared.item.Item.{Item}
use Rattle.frontier_adds.proofs.Adding.{none_longer, links_are_addresses}
use Rattle.frontier_adds.proofs.fetched.page_adds.Goals as goal

pub returns-then-is_longest : goal.returns-then-is_longest
returns-then-is_longest c =
    let letters = length c.args.page.now.path in
    let long : MatchBool true (most_letters ≤ letters) (letters < most_letters) =
    subst (λ b. MatchBool b (most_letters ≤ letters) (letters < most_letters)) c.if-is_longest.true c.is_longest.ensures in
    c.new.ensures ∙ sym (none_longer c.args.places.now c.args.scope.now c.args.page.now c.args.links.now long)

pub taken-requires : goal.taken-requires
taken-requires c =
    subst (λ (items : List Item). All (λ (i : Item). IsUri i.uri) items) (sym (c.as_slice.ensures ∙ c.in_ok-candidates.ensures))
    (links_are_addresses c.args.page.now c.args.links.now c.requires)
