use Rattle.std.proofs.Common.{◌≡◌, ℕ, ◌+◌, ◌≤◌, Err, IsErrAnd, List, refl, sym, ◌∙◌, ap, subst, arith}
use Rattle.crawl_kinds.specs.declared.event.Event.{Event}
use Rattle.crawl_kinds.specs.declared.event.Event.TheVariants.{Seeds}
use Rattle.crawl_kinds.specs.declared.item.Item.{Item}
use Rattle.crawl_history.specs.Steps.{Step}
use Rattle.frontier_core.specs.Core.{Core, absent_count, facts, history, next_time, with_event, known_count}
use Rattle.frontier_core.specs.Standing.{Stands}
use Rattle.frontier_core.specs.declared.stop.FrontierStop.{FrontierStop}
use Rattle.frontier_core.proofs.Seeded.{seeds_full, seeds_fit, seeds_counted, seeds_step}
use Rattle.frontier_core.proofs.Standing.{stands_still}
use Rattle.frontier_core.proofs.frontier.Frontier.seeds.Goals as goal
use Rattle.frontier_memo.specs.Fits.{Fits}

room_left : (after known adds least limit : ℕ) → after ≡ known + adds → least ≡ adds → known + least ≤ limit → after ≤ limit
room_left after known adds least limit grows same room = omega arith

pub returns-in_err-room_for-clause-full : goal.returns-in_err-room_for-clause-full
returns-in_err-room_for-clause-full c known adds e =
    let kept = subst (λ r. IsErrAnd r (λ (s : FrontierStop). s ≡ c.in_err-room_for.field-0.0)) e c.from_residual-in_err-room_for.ensures.1 in
    let told = c.in_err-room_for.ensures.full known adds (ap Err (sym kept)) in
    seeds_full c.args.self.now c.args.list.now c.in_ok-adds.adds c.in_ok-adds.ensures.same known adds told.0
    (told.1 ∙ ap (absent_count c.args.self.now) c.as_slice.ensures ∙ c.in_ok-adds.ensures.absent) told.2

pub record-requires : goal.record-requires
record-requires c =
    let made : Event = Seeds c.next_time-time.result c.args.list.now c.in_ok-adds.adds in
    let event : c.in_ok-copy-2.field-0 ≡ made = c.in_ok-copy-2.ensures ∙ ap (λ (l : List (List ℕ)). Seeds c.next_time-time.result l c.in_ok-adds.adds) c.in_ok-copy.ensures in
    subst (Fits (history c.args.self.now)) (sym event) (seeds_fit (history c.args.self.now) c.args.list.now c.in_ok-adds.adds c.in_ok-adds.ensures.fresh c.next_time-time.result)

pub returns-clause-room : goal.returns-clause-room
returns-clause-room c =
    let made : Event = Seeds c.next_time-time.result c.args.list.now c.in_ok-adds.adds in
    let event : c.in_ok-copy-2.field-0 ≡ made = c.in_ok-copy-2.ensures ∙ ap (λ (l : List (List ℕ)). Seeds c.next_time-time.result l c.in_ok-adds.adds) c.in_ok-copy.ensures in
    let kept : c.record.new.self ≡ with_event c.args.self.now made = c.in_ok-record.ensures.ok ∙ ap (λ (e : Event). with_event c.args.self.now e) event in
    room_left _ (known_count c.args.self.now) (absent_count c.args.self.now c.in_ok-adds.adds) _ _
    (ap (λ (core : Core). known_count core) kept ∙ seeds_counted c.args.self.now c.args.list.now c.in_ok-adds.adds c.in_ok-adds.ensures.fresh c.next_time-time.result)
    (ap (absent_count c.args.self.now) c.as_slice.ensures) c.in_ok-room_for.ensures.ok

pub returns-clause-step : goal.returns-clause-step
returns-clause-step c pages a legal =
    let core : Core = c.args.self.now in
    let timed : Seeds c.next_time-time.result c.args.list.now c.in_ok-adds.adds ≡ Seeds (next_time core c.args.now) c.args.list.now c.in_ok-adds.adds =
    ap (λ t. Seeds t c.args.list.now c.in_ok-adds.adds) c.next_time-time.ensures in
    subst (Step (facts core pages) a (history core)) (sym (ap (λ (l : List (List ℕ)). Seeds c.next_time-time.result l c.in_ok-adds.adds) c.in_ok-copy.ensures ∙ timed))
    (seeds_step c.items_are_valid.ensures c.valid_is_computed.ensures pages a core c.args.list.now c.in_ok-adds.adds c.args.now c.requires.opened c.requires.forms
    (c.in_ok-adds.ensures.same pages) c.in_ok-adds.ensures.fresh (c.in_ok-adds.ensures.valid pages)
    (subst (λ (items : List Item). known_count core + absent_count core items ≤ core.settings.max_keys) c.as_slice.ensures c.in_ok-room_for.ensures.ok) legal)

pub returns-clause-stands : goal.returns-clause-stands
returns-clause-stands c pages a stands =
    let made : Event = Seeds c.next_time-time.result c.args.list.now c.in_ok-adds.adds in
    let event : c.in_ok-copy-2.field-0 ≡ made = c.in_ok-copy-2.ensures ∙ ap (λ (l : List (List ℕ)). Seeds c.next_time-time.result l c.in_ok-adds.adds) c.in_ok-copy.ensures in
    subst (Stands pages a) (sym (c.in_ok-record.ensures.ok ∙ ap (λ (e : Event). with_event c.args.self.now e) event)) (stands_still pages a c.args.self.now made refl stands refl)
