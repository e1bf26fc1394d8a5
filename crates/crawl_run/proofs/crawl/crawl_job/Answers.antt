use Rattle.std.proofs.Common.{◌≡◌, ℕ, Err, None, sym, ◌∙◌, ap, subst}
use Rattle.std.specs.Prelude.{IsTrue}
use Rattle.crawl_kinds.specs.declared.settings.Settings.{Settings}
use Rattle.crawl_traits.specs.Causes.{Rose}
use Rattle.crawl_traits.specs.Images.{Image}
use Rattle.crawl_traits.specs.declared.file.FileId.TheVariants as file
use Rattle.open_crawl.specs.JobFile.{HoldsText}
use Rattle.process_chains.specs.Ends.{World, world}
use Rattle.job_commands.specs.Causes.{IsCaused, volume_causes}
use Rattle.job_commands.specs.Opened.{IsDamaged, KeepsJob}
use Rattle.job_commands.proofs.Caused.{load_caused, rose_before}
use Rattle.job_commands.proofs.Openings.{kept_then}
use Rattle.crawl_run.specs.Crawl.{IsDone, IsFull, IsReached}
use Rattle.crawl_run.proofs.Visited.{loaded_caused, visited_caused}
use Rattle.crawl_run.proofs.crawl.crawl_job.Goals as goal

pub returns-in-Ok-go_on-clause-done : goal.returns-in-Ok-go_on-clause-done
returns-in-Ok-go_on-clause-done g c told told_out reached =
    let of = g.V.Volume in
    let l = g.L.Link in
    let gives = g.C.Clock.gives c.args.clock.now in
    let w : Settings → World = λ settings. world l gives settings c.args.link.now c.go_on.new.link in
    let before = of.contents c.args.volume.now in
    let mid = of.contents c.read_job.new.volume in
    let same : mid ≡ before = c.in-Ok.ensures.contents in
    let keeps = kept_then mid before c.in-Ok.job same (c.in-Ok.ensures.ok told) in
    subst (λ (i : Image). IsDone w gives i (of.contents c.go_on.new.volume) (g.W.Sink.written c.args.out.now) (g.W.Sink.written c.go_on.new.out) (l.exchanges c.args.link.now) (l.exchanges c.go_on.new.link)) same
    (c.in-Ok-go_on.ensures.done (c.in-Ok.ensures.tells ∙ told) told_out keeps (subst (λ (i : Image). IsReached i) (sym same) reached))

pub returns-in-Err-go_on-clause-caused : goal.returns-in-Err-go_on-clause-caused
returns-in-Err-go_on-clause-caused g c =
    let of = g.V.Volume in
    let l = g.L.Link in
    let gives = g.C.Clock.gives c.args.clock.now in
    let w : Settings → World = λ settings. world l gives settings c.args.link.now c.go_on.new.link in
    let old = c.args.volume.now in
    let mid = c.read_job.new.volume in
    let new = c.go_on.new.volume in
    let out = g.W.Sink.tells c.args.out.now in
    let left = λ (i : Image) (known adds : ℕ). IsFull w gives i (of.contents new) (g.W.Sink.written c.args.out.now) (g.W.Sink.written c.go_on.new.out) (l.exchanges c.args.link.now) (l.exchanges c.go_on.new.link) known adds in
    let same : of.contents mid ≡ of.contents old = c.in-Ok.ensures.contents in
    let full_then = λ (known adds : ℕ). IsTrue (of.tells mid) → IsTrue out → KeepsJob (of.contents mid) c.in-Ok.job → IsReached (of.contents mid) → left (of.contents mid) known adds in
    let full = λ (known adds : ℕ). IsTrue (of.tells old) → IsTrue out → IsReached (of.contents old) → left (of.contents old) known adds in
    let fuller : (known adds : ℕ) → full_then known adds → full known adds =
    λ known adds then told told_out reached.
    subst (λ (i : Image). left i known adds) same
    (then (c.in-Ok.ensures.tells ∙ told) told_out (kept_then (of.contents mid) (of.contents old) c.in-Ok.job same (c.in-Ok.ensures.ok told)) (subst (λ (i : Image). IsReached i) (sym same) reached)) in
    visited_caused c.in-Err-go_on.status (Rose (of.faults mid) (of.faults new)) (Rose (of.faults old) (of.faults new)) (Rose (g.W.Sink.faults c.args.out.now) (g.W.Sink.faults c.go_on.new.out))
    full_then full (of.tells mid) (of.tells old) (of.contents mid) (of.contents old)
    (rose_before (of.faults old) (of.faults mid) (of.faults new) c.in-Ok.ensures.later) fuller c.in-Ok.ensures.tells same c.in-Err-go_on.ensures.caused.1

pub returns-in-Err-clause-caused : goal.returns-in-Err-clause-caused
returns-in-Err-clause-caused g c =
    let of = g.V.Volume in
    let before = of.contents c.args.volume.now in
    let tells = of.tells c.args.volume.now in
    let rose = Rose (of.faults c.args.volume.now) (of.faults c.read_job.new.volume) in
    loaded_caused _ rose (Rose (g.W.Sink.faults c.args.out.now) (g.W.Sink.faults c.args.out.now)) _ tells before
    (subst (IsCaused (volume_causes rose ⊥ (IsTrue tells → HoldsText None (before file.Job)) (λ f at. IsTrue tells → IsDamaged before f at) (λ known adds. ⊥))) (sym c.status_of_load.ensures)
    (load_caused c.in-Err.fault rose before tells (λ known adds. ⊥) (λ is. c.in-Err.ensures.cause (ap Err is)) c.in-Err.ensures.fault))
