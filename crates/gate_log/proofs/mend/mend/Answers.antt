use Rattle.std.proofs.Common.{◌≡◌, ℕ, ◌+◌, List, [], ◌∷◌, sym, ◌∙◌, subst, arith}
use Rattle.crawl_traits.specs.Images.{Written, TornWrite, Shortened, TornCut, After}
use Rattle.crawl_traits.proofs.Moments.{weaker}
use Rattle.crawl_traits.proofs.Steps.{step_weaker}
use Rattle.gate_log.specs.Blocks.{EndsAt}
use Rattle.gate_log.specs.Rest.{KeepsCount}
use Rattle.gate_log.proofs.Mending.{on_ok_told, short_none, short_keeps, short_written, long_ends, cut_ends, cut_keeps, ends_here, rests}
use Rattle.gate_log.proofs.mend.mend.Goals as goal

empty_ends : (c : List ℕ) → c ≡ 45 ∷ [] → EndsAt [] c
empty_ends c is = record { gate = 45; all = tt; closed = λ e. absurd (cc (e)); spelled = is }

pub returns-then-bytes-le1-clause-ok : goal.returns-then-bytes-le1-clause-ok
returns-then-bytes-le1-clause-ok g c =
    on_ok_told c.write_synced.result
    (λ written durable bodies disk counts gate.
    let none = short_none bodies c.args.bytes.now counts c.if-bytes-le1.true in
    rests g.V.Volume c.args.file c.args.gate c.args.volume.now c.write_synced.new.volume c.args.bytes.now bodies (Written 0 (45 ∷ [])) (c.requires disk.tells) (written disk.tells) (c.write_synced.ensures.tells ∙ disk.tells) (durable disk.tells)
    (λ d step. subst (λ (bs : List (List ℕ)). EndsAt bs d) (sym none) (empty_ends d (short_written c.args.bytes.now d c.if-bytes-le1.true step))) gate)
    c.write_synced.ensures.written c.write_synced.ensures.durable

pub returns-then-bytes-le1-clause-any_moment : goal.returns-then-bytes-le1-clause-any_moment
returns-then-bytes-le1-clause-any_moment g c bodies disk counts gate =
    weaker g.V.Volume c.args.volume.now c.write_synced.new.volume _ (After c.args.file KeepsCount (g.V.Volume.may_leave c.args.volume.now))
    (step_weaker c.args.file (g.V.Volume.contents c.args.volume.now c.args.file) (TornWrite 0 1) KeepsCount _ disk.only
    (λ d torn. subst (λ (b : List ℕ). KeepsCount b d) (sym (c.requires disk.tells)) (short_keeps c.args.bytes.now d c.if-bytes-le1.true (subst (λ (b : List ℕ). TornWrite 0 1 b d) (c.requires disk.tells) torn)))) c.write_synced.ensures.any_moment

pub returns-then-bytes-gate-clause-ok : goal.returns-then-bytes-gate-clause-ok
returns-then-bytes-gate-clause-ok g c =
    on_ok_told c.cut_synced.result
    (λ cut durable bodies disk counts gate.
    let ends = long_ends bodies c.args.bytes.now counts (omega (arith, c.if-bytes-le1.false)) in
    rests g.V.Volume c.args.file c.args.gate c.args.volume.now c.cut_synced.new.volume c.args.bytes.now bodies (Shortened (c.args.gate + 1)) (c.requires disk.tells) (cut disk.tells) (c.cut_synced.ensures.tells ∙ disk.tells) (durable disk.tells)
    (λ d step. cut_ends bodies c.args.bytes.now ends d (subst (λ (k : ℕ). Shortened (k + 1) c.args.bytes.now d) gate step)) gate)
    c.cut_synced.ensures.cut c.cut_synced.ensures.durable

pub returns-clause-ok : goal.returns-clause-ok
returns-clause-ok g c bodies disk counts gate =
    let ends = long_ends bodies c.args.bytes.now counts (omega (arith, c.if-bytes-le1.false)) in
    record {
      disk = disk;
      ends = subst (EndsAt bodies) (sym (c.requires disk.tells)) (ends_here bodies c.args.bytes.now ends (omega (arith, c.if-bytes-gate.false, c.if-bytes-le1.false, gate)));
      place = gate;
    }

pub returns-then-bytes-gate-clause-any_moment : goal.returns-then-bytes-gate-clause-any_moment
returns-then-bytes-gate-clause-any_moment g c bodies disk counts gate =
    let ends = long_ends bodies c.args.bytes.now counts (omega (arith, c.if-bytes-le1.false)) in
    weaker g.V.Volume c.args.volume.now c.cut_synced.new.volume _ (After c.args.file KeepsCount (g.V.Volume.may_leave c.args.volume.now))
    (step_weaker c.args.file (g.V.Volume.contents c.args.volume.now c.args.file) (TornCut (c.args.gate + 1)) KeepsCount _ disk.only
    (λ d torn. subst (λ (b : List ℕ). KeepsCount b d) (sym (c.requires disk.tells)) (cut_keeps bodies c.args.bytes.now ends d (subst (λ (k : ℕ). TornCut (k + 1) c.args.bytes.now d) gate (subst (λ (b : List ℕ). TornCut (c.args.gate + 1) b d) (c.requires disk.tells) torn))))) c.cut_synced.ensures.any_moment
