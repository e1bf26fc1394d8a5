use Rattle.std.proofs.Common.{◌≡◌, ℕ, ◌+◌, ◌≤◌, sym, ap, ◌∙◌, subst, arith}
use Rattle.crawl_kinds.specs.declared.event.Event.TheVariants.{Emit}
use Rattle.std.specs.List.{AllByRecursion}
use Rattle.crawl_kinds.specs.declared.item.Item.{Item}
use Rattle.crawl_kinds.specs.Event.{Emission, Finishing}
use Rattle.crawl_history.specs.History.{session_finishes, ticket_count}
use Rattle.crawl_history.specs.Tickets.{emits_out, emit_out}
use Rattle.frontier_core.specs.Core.{Core, history, with_event}
use Rattle.frontier_memo.specs.Fits.{EmitFits}
use Rattle.frontier_core.proofs.Emits.{emit_fits, few_tickets}
use Rattle.frontier_core.proofs.Held.{held_now}
use Rattle.frontier_core.proofs.frontier.Frontier.put_out.Goals as goal

pub overflow_add-ticket : goal.overflow_add-ticket
overflow_add-ticket c = omega (arith, few_tickets c.self.inside.events.items, c.self.inside.events.ok.0)

pub record-requires : goal.record-requires
record-requires c =
    let next : c.self.inside.memo.tickets + 1 ≡ ticket_count (history c.args.self.now) + 1 =
    ap (λ (n : ℕ). n + 1) (c.self.invariant.tickets ∙ ap (λ (core : Core). ticket_count (history core)) c.self.view_is) in
    emit_fits (history c.args.self.now) c.args.work.at c.args.caller (c.self.inside.memo.tickets + 1) c.args.work.verdict c.in_ok-copy.field-0
    (subst (λ (i : Item). EmitFits (history c.args.self.now) (ticket_count (history c.args.self.now) + 1) i) (sym c.in_ok-copy.ensures) c.requires) next

pub returns-clause-ok : goal.returns-clause-ok
returns-clause-ok c =
    let next : c.self.inside.memo.tickets + 1 ≡ ticket_count (history c.args.self.now) + 1 =
    ap (λ (n : ℕ). n + 1) (c.self.invariant.tickets ∙ ap (λ (core : Core). ticket_count (history core)) c.self.view_is) in (
      c.in_ok-record.ensures.ok
          ∙ ap (λ (i : Item). with_event c.args.self.now (Emit c.args.work.at c.args.caller (c.self.inside.memo.tickets + 1) c.args.work.verdict i)) c.in_ok-copy.ensures,
      emit_fits (history c.args.self.now) c.args.work.at c.args.caller (c.self.inside.memo.tickets + 1) c.args.work.verdict c.args.work.item c.requires next,
    )

pub returns-clause-held : goal.returns-clause-held
returns-clause-held c =
    let core : Core = c.args.self.now in
    let next : c.self.inside.memo.tickets + 1 ≡ ticket_count (history core) + 1 =
    ap (λ (n : ℕ). n + 1) (c.self.invariant.tickets ∙ ap (λ (core : Core). ticket_count (history core)) c.self.view_is) in
    let m : Emission = record { time = c.args.work.at; caller = c.args.caller; ticket = c.self.inside.memo.tickets + 1; verdict = c.args.work.verdict; item = c.args.work.item } in
    let given : AllByRecursion (λ (x : Emission). x.ticket ≤ ticket_count (history core)) (emits_out (history core)) =
    subst (λ (core : Core). AllByRecursion (λ (x : Emission). x.ticket ≤ ticket_count (history core)) (emits_out (history core))) c.self.view_is c.self.invariant.session.given in
    let ended : AllByRecursion (λ (x : Finishing). x.ticket ≤ ticket_count (history core)) (session_finishes (history core)) =
    subst (λ (core : Core). AllByRecursion (λ (x : Finishing). x.ticket ≤ ticket_count (history core)) (session_finishes (history core))) c.self.view_is c.self.invariant.session.ended in
    ap (λ (core : Core). emit_out (history core) (c.self.inside.memo.tickets + 1))
    (c.in_ok-record.ensures.ok ∙ ap (λ (i : Item). with_event core (Emit c.args.work.at c.args.caller (c.self.inside.memo.tickets + 1) c.args.work.verdict i)) c.in_ok-copy.ensures)
    ∙ held_now (history core) m next given ended
