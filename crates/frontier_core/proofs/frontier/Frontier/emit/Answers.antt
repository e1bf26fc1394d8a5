use Rattle.std.proofs.Common.{◌≡◌, ℕ, ◌+◌, ◌<◌, ◌≤◌, ◌^◌, max, false, Some, sym, ap, ap₂, ◌∙◌, subst, arith, refl}
use Rattle.std.specs.Prelude.{◌&&◌, is_none}
use Rattle.crawl_kinds.specs.declared.event.Verdict.TheVariants.{Allowed}
use Rattle.crawl_kinds.specs.declared.item.Item.{Item}
use Rattle.crawl_kinds.specs.declared.item.Work.{Work}
use Rattle.crawl_history.specs.Emission.{answer, Gives}
use Rattle.crawl_history.specs.History.{ticket_count}
use Rattle.crawl_history.specs.Verdicts.{verdict}
use Rattle.frontier_core.specs.Core.{Core, facts, history, next_time}
use Rattle.frontier_core.specs.Emitting.{emit_event}
use Rattle.frontier_core.specs.Standing.{Stands}
use Rattle.frontier_memo.specs.Sums.{saturated}
use Rattle.frontier_core.proofs.Emits.{few_tickets, step_of}
use Rattle.frontier_core.proofs.Standing.{stands_still}
use Rattle.frontier_core.proofs.Valid.{emit_valid}
use Rattle.frontier_memo.specs.Fits.{last_added}
use Rattle.core_facts.specs.CoreFacts.{is_secure}
use Rattle.frontier_core.proofs.frontier.Frontier.emit.Goals as goal

pub returns-clause-answers : goal.returns-clause-answers
returns-clause-answers c pages a stands =
    let core : Core = c.args.self.now in
    let same = c.in_ok-emitted.ensures.same in
    let made = c.in_ok-work-in-Go.ensures.same in
    let item : c.in_ok-emitted.emitted.work.item ≡ c.in-Go.own.now.item = ap (λ (w : Work). w.item) same.0 ∙ made.0 ∙ c.in_ok-copy-in-Go.ensures in
    let at : c.in_ok-emitted.emitted.work.at ≡ next_time core c.args.now = ap (λ (w : Work). w.at) same.0 ∙ made.1 ∙ c.next_time-at.ensures in
    let tickets : ticket_count (history core) + 1 < 2 ^ 64 =
    omega (arith, few_tickets c.self.inside.events.items, c.self.inside.events.ok.0, ap (λ (core : Core). ticket_count (history core)) c.self.view_is) in
    let fits : c.in_ok-emitted.emitted.ticket < 2 ^ 64 = omega (arith, tickets, same.2) in
    let gives : answer (facts core pages) a (history core) (next_time core c.args.now) ≡ Gives c.in-Go.own.now.item =
    ap (answer (facts core pages) a (history core)) (sym c.next_time-at.ensures) ∙ c.in-Go.ensures.answered pages a stands in
    let says : c.in_ok-emitted.emitted.work.verdict ≡ verdict (facts core pages) a (history core) c.in-Go.own.now.item (next_time core c.args.now) =
    ap (λ (w : Work). w.verdict) same.0 ∙ c.in_ok-work-in-Go.ensures.verdict pages a stands
    ∙ ap₂ (verdict (facts core pages) a (history core)) c.in_ok-copy-in-Go.ensures c.next_time-at.ensures in
    let counts : (n : ℕ) → c.in-Go.own.now.tries ≡ saturated n → n < max core.settings.max_tries 1 → c.in_ok-emitted.emitted.work.tries ≡ n + 1 =
    λ n is below.
    ap (λ (w : Work). w.tries) same.0 ∙ made.2
    ∙ c.next_try.ensures.next n is (subst (λ (m : ℕ). n < max m 1) (ap (λ (core : Core). core.settings.max_tries) (sym c.self.view_is)) below) in
    step_of pages a core c.args.now c.in-Go.own.now c.in_ok-emitted.emitted item at same.2 fits (subst (λ (k : ℕ). k ≤ 31) (sym same.1) c.requires) c.in-Go.ensures.ready gives says counts

pub returns-clause-stands : goal.returns-clause-stands
returns-clause-stands c pages a stands =
    subst (Stands pages a) (sym c.in_ok-emitted.ensures.ok.0) (stands_still pages a c.args.self.now (emit_event c.in_ok-emitted.emitted) refl stands refl)

pub returns-clause-moves : goal.returns-clause-moves
returns-clause-moves c =
    let core : Core = c.args.self.now in
    let same = c.in_ok-emitted.ensures.same in
    let made = c.in_ok-work-in-Go.ensures.same in
    record {
      kept = c.in_ok-emitted.ensures.ok.0;
      fits = c.in_ok-emitted.ensures.ok.1;
      at = ap (λ (w : Work). w.at) same.0 ∙ made.1 ∙ c.next_time-at.ensures;
      asked_by = same.1;
      ticket = same.2;
      held = c.in_ok-emitted.ensures.held;
      tries = subst (λ (n : ℕ). 1 ≤ n) (sym (ap (λ (w : Work). w.tries) same.0 ∙ made.2)) c.next_try.ensures.first;
      allowed = subst (λ (w : Work). w.verdict ≡ Allowed → (is_secure w.item.uri && is_none core.settings.proxy) ≡ false) (sym same.0) c.in_ok-work-in-Go.ensures.allowed;
    }

pub returns-clause-valid : goal.returns-clause-valid
returns-clause-valid c valid =
    let core : Core = c.args.self.now in
    let same = c.in_ok-emitted.ensures.same in
    let made = c.in_ok-work-in-Go.ensures.same in
    let item : c.in_ok-emitted.emitted.work.item ≡ c.in-Go.own.now.item = ap (λ (w : Work). w.item) same.0 ∙ made.0 ∙ c.in_ok-copy-in-Go.ensures in
    let tickets : ticket_count (history core) + 1 < 2 ^ 64 =
    omega (arith, few_tickets c.self.inside.events.items, c.self.inside.events.ok.0, ap (λ (core : Core). ticket_count (history core)) c.self.view_is) in
    emit_valid core valid c.in_ok-emitted.emitted c.args.now (ap (λ (w : Work). w.at) same.0 ∙ made.1 ∙ c.next_time-at.ensures)
    (subst (λ (k : ℕ). k ≤ 31) (sym same.1) c.requires) (omega (arith, tickets, same.2))
    (ap (λ (i : Item). last_added (history core) i.key) item ∙ c.in-Go.ensures.ready.fits.added ∙ ap Some (sym item))
