use Rattle.std.proofs.Common.{sym, subst}
use Rattle.gate_log.specs.Blocks.{Counts}
use Rattle.gate_log.specs.Reading.{bodies_of}
use Rattle.gate_log.proofs.OpenRun.{open_run, read_on_disk}
use Rattle.gate_log.proofs.log.GateLog.open.Goals as goal

pub returns-in_err-mend-clause-any_moment : goal.returns-in_err-mend-clause-any_moment
returns-in_err-mend-clause-any_moment g c told =
    let disk = read_on_disk g.V.Volume c.args.file c.args.volume.now c.sync.new.self c.read_whole.new.volume told c.in_ok-sync.ensures.tells c.in_ok-whole.ensures.tells c.in_ok-sync.ensures.contents c.in_ok-whole.ensures.contents (c.in_ok-sync.ensures.durable told) c.in_ok-whole.ensures.crash in
    let counts = subst (Counts (bodies_of c.in_ok-whole.whole.blocks)) (sym c.deref.ensures.value) c.in_ok-whole.ensures.blocks.counts in
    open_run g.V.Volume c.args.file c.args.volume.now c.sync.new.self c.read_whole.new.volume c.mend.new.volume g.met.V.Volume.only_now c.in_ok-sync.ensures.time c.in_ok-sync.ensures.crash c.in_ok-whole.ensures.any_moment c.in_ok-whole.ensures.crash
    (c.mend.ensures.any_moment (bodies_of c.in_ok-whole.whole.blocks) disk counts c.in_ok-whole.ensures.gate)

pub returns-clause-any_moment : goal.returns-clause-any_moment
returns-clause-any_moment g c told =
    let disk = read_on_disk g.V.Volume c.args.file c.args.volume.now c.sync.new.self c.read_whole.new.volume told c.in_ok-sync.ensures.tells c.in_ok-whole.ensures.tells c.in_ok-sync.ensures.contents c.in_ok-whole.ensures.contents (c.in_ok-sync.ensures.durable told) c.in_ok-whole.ensures.crash in
    let counts = subst (Counts (bodies_of c.in_ok-whole.whole.blocks)) (sym c.deref.ensures.value) c.in_ok-whole.ensures.blocks.counts in
    open_run g.V.Volume c.args.file c.args.volume.now c.sync.new.self c.read_whole.new.volume c.mend.new.volume g.met.V.Volume.only_now c.in_ok-sync.ensures.time c.in_ok-sync.ensures.crash c.in_ok-whole.ensures.any_moment c.in_ok-whole.ensures.crash
    (c.mend.ensures.any_moment (bodies_of c.in_ok-whole.whole.blocks) disk counts c.in_ok-whole.ensures.gate)
