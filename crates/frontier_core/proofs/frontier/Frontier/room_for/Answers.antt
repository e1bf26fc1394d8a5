use Rattle.std.proofs.Common.{◌≡◌, ℕ, ◌+◌, ◌-◌, ◌<◌, ◌≤◌, sym, ◌∙◌, ap, arith}
use Rattle.crawl_history.specs.History.{history_of}
use Rattle.frontier_core.specs.Core.{Core, absent_count}
use Rattle.frontier_core.proofs.frontier.Frontier.room_for.Goals as goal
use Rattle.frontier_core.proofs.frontier.Frontier.room_for.Goals.{then-most-known-via-then-most-known, then-most-known-via-else-most-known+then-most-known-2}

room_left : (known count more adds most limit : ℕ) → known ≡ count → more ≡ adds → known ≤ most → more ≤ most - known → most ≡ limit → count + adds ≤ limit
room_left known count more adds most limit same len below left is = omega arith

pub returns-then-most-known-clause-full : goal.returns-then-most-known-clause-full
returns-then-most-known-clause-full c known adds e =
    let same_known : c.known-known.result ≡ known = cc in
    let same_adds : c.new_keys-adds.result ≡ adds = cc in
    let limit : c.self.inside.settings.max_keys ≡ c.args.self.now.settings.max_keys = ap (λ (core : Core). core.settings.max_keys) c.self.view_is in
    let past : c.args.self.now.settings.max_keys < known + adds =
    elim c.then-most-known.branch [
      | then-most-known-via-then-most-known w ↦ omega (arith, same_known, limit)
      | then-most-known-via-else-most-known+then-most-known-2 w ↦ omega (arith, same_known, same_adds, limit)
    ] in (
      sym same_known ∙ c.known-known.ensures,
      sym same_adds ∙ c.new_keys-adds.ensures (history_of c.self.inside.events.items) (λ key. (c.self.invariant.places key).place)
          ∙ ap (λ (core : Core). absent_count core c.args.items.now) c.self.view_is,
      past,
    )

pub returns-clause-ok : goal.returns-clause-ok
returns-clause-ok c =
    room_left c.known-known.result _ c.new_keys-adds.result _ c.self.inside.settings.max_keys _ c.known-known.ensures
    (c.new_keys-adds.ensures (history_of c.self.inside.events.items) (λ key. (c.self.invariant.places key).place)
    ∙ ap (λ (core : Core). absent_count core c.args.items.now) c.self.view_is)
    c.if-most-known.false c.if-most-known-2.false (ap (λ (core : Core). core.settings.max_keys) c.self.view_is)
