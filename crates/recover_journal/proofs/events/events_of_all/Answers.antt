use Rattle.std.proofs.Common.{◌≡◌, ◌+◌, List, ◌∷◌, ◌++◌, length, suc, drop, sym, ◌∙◌, subst, arith}
use Rattle.std.proofs.lemmas.Iterator.Adapters.{YieldsList-from_vec}
use Rattle.std.proofs.lemmas.Iterator.Consumers.{YieldsList-so_far, YieldsList-turn, YieldsList-end}
use Rattle.std.proofs.lemmas.List.{map-id}
use Rattle.std.proofs.lemmas.Result.{err_from_is_err_and}
use Rattle.gate_log.specs.Reading.{AreBlocksOf}
use Rattle.gate_log.specs.declared.block.Block.{Block}
use Rattle.recover_journal.specs.Holds.{AreEvents}
use Rattle.recover_journal.proofs.BlockLists.{events-push, events_valid, events_gated}
use Rattle.recover_journal.proofs.Walking.{are_same, cut_at, fault_at, gates_grown}
use Rattle.recover_journal.proofs.events.events_of_all.Goals as goal

pub loop-block-preserved : goal.loop-block-preserved
loop-block-preserved c =
    let inv = c.loop-block.invariant in
    let own = c.in_ok-own.own in
    let gated : length c.loop-block.gates.items ≡ length c.loop-block.events.items = events_gated c.loop-block.yielded c.loop-block.events.items c.loop-block.gates.items inv in
    let count : c.len.result ≡ c.loop-block.gates.len + length own.items =
    omega (arith, c.len.ensures, c.in_ok-append.ensures.len, c.loop-block.events.ok.0, c.loop-block.gates.ok.0, own.ok.0, gated) in
    let gates = gates_grown c.loop-block.gates.items c.resize.new.self.items c.len.result c.loop-block.gates.len (length own.items) c.in-Some.block.gate c.in_ok-resize.ensures.items c.loop-block.gates.ok.0 count in
    let pushed = events-push c.loop-block.yielded c.in-Some.block c.loop-block.events.items own.items c.loop-block.gates.items inv c.in_ok-own.ensures.ok in
    are_same _ _ c.append.new.self.items _ c.resize.new.self.items pushed (sym c.in_ok-append.ensures.items) (sym gates)

pub returns-clause-ok : goal.returns-clause-ok
returns-clause-ok c =
    let road = YieldsList-from_vec c.args.blocks (cc) (cc) in
    let all = (YieldsList-end road c.loop-block.yielded c.loop-block.block-iterator c.loop-block.yielded_by _ c.next.new.self c.in-None.is c.next.ensures.steps).0 in
    let blocks : c.loop-block.yielded ≡ c.args.blocks = sym (map-id c.loop-block.yielded) ∙ all in
    subst (λ (l : List Block). AreEvents l c.from.result c.from-2.result) blocks
    (are_same _ _ c.from.result _ c.from-2.result c.loop-block.invariant (sym c.from.ensures) (sym c.from-2.ensures))

pub returns-clause-valid : goal.returns-clause-valid
returns-clause-valid c = events_valid c.args.blocks c.from.result c.from-2.result (returns-clause-ok c)

pub returns-clause-gates : goal.returns-clause-gates
returns-clause-gates c = events_gated c.args.blocks c.from.result c.from-2.result (returns-clause-ok c)

pub returns-in_err-own-clause-damaged : goal.returns-in_err-own-clause-damaged
returns-in_err-own-clause-damaged c file counted =
    let before = c.loop-block.yielded in
    let block = c.in-Some.block in
    let road = YieldsList-from_vec c.args.blocks (cc) (cc) in
    let front = YieldsList-so_far road before c.loop-block.block-iterator c.loop-block.yielded_by in
    let turn = YieldsList-turn road before c.loop-block.block-iterator c.loop-block.yielded_by _ c.next.new.self block c.in-Some.is c.next.ensures.steps in
    let all : c.args.blocks ≡ before ++ block ∷ drop (suc (length before)) c.args.blocks = cut_at c.args.blocks before block (sym (map-id before) ∙ front) turn.0 turn.1 in
    let p = err_from_is_err_and c.from_residual.result c.from_residual.ensures.1 in
    rw (p.1, p.2) (fault_at before block (drop (suc (length before)) c.args.blocks) c.loop-block.events.items c.loop-block.gates.items file c.in_err-own.field-0.0
    (subst (λ (l : List Block). AreBlocksOf l file) all counted) c.loop-block.invariant c.in_err-own.ensures.bad)
