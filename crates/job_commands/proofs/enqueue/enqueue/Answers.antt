use Rattle.std.proofs.Common.{◌≡◌, ◌++◌, ℕ, List, Err, refl, ap, sym, ◌∙◌, subst}
use Rattle.std.specs.Prelude.{IsTrue}
use Rattle.crawl_traits.specs.Causes.{Rose}
use Rattle.crawl_traits.specs.Images.{After, Image}
use Rattle.crawl_traits.specs.Runs.{LeavesOnly}
use Rattle.crawl_traits.specs.declared.file.FileId.TheVariants as file
use Rattle.crawl_traits.proofs.Moments.{weaker, joined, now_one}
use Rattle.open_crawl.specs.JobFile.{HoldsText}
use Rattle.recover_journal.specs.Holds.{journal_file, HoldsEvents}
use Rattle.std.proofs.Common.{None}
use Rattle.program_status.specs.Gains.{GainsFront}
use Rattle.program_status.specs.declared.status.Status.TheVariants.{SinkFault}
use Rattle.job_commands.specs.Causes.{IsCaused, volume_causes}
use Rattle.job_commands.specs.Enqueue.{AreSeedsIn, Filled, HoldsEnqueued, Shows}
use Rattle.job_commands.specs.Opened.{IsDamaged, KeepsJob}
use Rattle.job_commands.proofs.Caused.{added_caused, load_caused, loaded_caused, none_refused, read_caused, rose_before}
use Rattle.job_commands.proofs.Openings.{kept_then}
use Rattle.job_commands.proofs.Runs.{enqueued_from, settled_on, unopened}
use Rattle.job_commands.proofs.enqueue.enqueue.Goals as goal

pub returns-in-Err-clause-caused : goal.returns-in-Err-clause-caused
returns-in-Err-clause-caused g c =
    let of = g.V.Volume in
    let before = of.contents c.args.volume.now in
    let rose = Rose (of.faults c.args.volume.now) (of.faults c.read_job.new.volume) in
    loaded_caused (g.C.Clock.gives c.args.clock.now) _ rose (Rose (g.W.Sink.faults c.args.out.now) (g.W.Sink.faults c.args.out.now)) (Rose (g.S.Source.faults c.args.source.now) (g.S.Source.faults c.args.source.now))
    (of.tells c.args.volume.now) (g.S.Source.tells c.args.source.now) before (of.contents c.read_job.new.volume) (g.S.Source.left c.args.source.now)
    (subst (IsCaused (volume_causes rose ⊥ (IsTrue (of.tells c.args.volume.now) → HoldsText None (before file.Job)) (λ f at. IsTrue (of.tells c.args.volume.now) → IsDamaged before f at) (λ known adds. ⊥))) (sym c.status_of_load.ensures)
    (load_caused c.in-Err.fault rose before (of.tells c.args.volume.now) (λ known adds. ⊥) (λ is. c.in-Err.ensures.cause (ap Err is)) c.in-Err.ensures.fault))

pub returns-in-Err-clause-any_moment : goal.returns-in-Err-clause-any_moment
returns-in-Err-clause-any_moment g c events settled =
    weaker g.V.Volume c.args.volume.now c.read_job.new.volume (g.V.Volume.may_leave c.args.volume.now) _
    (λ i here. unopened _ _ _ events (g.V.Volume.may_leave c.args.volume.now) i here (settled.each i here)) c.in-Err.ensures.any_moment

pub returns-in-Err-take_seeds-clause-caused : goal.returns-in-Err-take_seeds-clause-caused
returns-in-Err-take_seeds-clause-caused g c =
    let of = g.V.Volume in
    let before = of.contents c.args.volume.now in
    read_caused (g.C.Clock.gives c.args.clock.now) c.in-Err-take_seeds.status (Rose (of.faults c.args.volume.now) (of.faults c.read_job.new.volume)) (Rose (g.W.Sink.faults c.args.out.now) (g.W.Sink.faults c.args.out.now)) (Rose (g.S.Source.faults c.args.source.now) (g.S.Source.faults c.take_seeds.new.source))
    (of.tells c.args.volume.now) (g.S.Source.tells c.args.source.now) before (of.contents c.read_job.new.volume) (g.S.Source.left c.args.source.now)
    (λ yes_told. (c.in-Ok.job, kept_then before before c.in-Ok.job refl (c.in-Ok.ensures.ok yes_told))) c.in-Err-take_seeds.ensures.fault

pub returns-in-Err-take_seeds-clause-any_moment : goal.returns-in-Err-take_seeds-clause-any_moment
returns-in-Err-take_seeds-clause-any_moment g c events settled =
    weaker g.V.Volume c.args.volume.now c.read_job.new.volume (g.V.Volume.may_leave c.args.volume.now) _
    (λ i here. unopened _ _ _ events (g.V.Volume.may_leave c.args.volume.now) i here (settled.each i here)) c.in-Ok.ensures.any_moment

pub returns-in-Err-add-clause-caused : goal.returns-in-Err-add-clause-caused
returns-in-Err-add-clause-caused g c =
    let of = g.V.Volume in
    let before = of.contents c.args.volume.now in
    let mid = c.read_job.new.volume in
    added_caused (g.C.Clock.gives c.args.clock.now) c.in-Err-add.status (Rose (of.faults c.args.volume.now) (of.faults c.add.new.volume)) (Rose (g.W.Sink.faults c.args.out.now) (g.W.Sink.faults c.args.out.now)) (Rose (g.S.Source.faults c.args.source.now) (g.S.Source.faults c.take_seeds.new.source))
    (of.tells c.args.volume.now) (g.S.Source.tells c.args.source.now) before (of.contents c.add.new.volume) (g.S.Source.left c.args.source.now)
    (Rose (of.faults mid) (of.faults c.add.new.volume)) (of.tells mid) (of.contents mid) c.in-Ok-take_seeds.seeds c.in-Ok.job
    (rose_before (of.faults c.args.volume.now) (of.faults mid) (of.faults c.add.new.volume) c.in-Ok.ensures.later) c.in-Ok.ensures.tells c.in-Ok.ensures.contents c.in-Ok-take_seeds.ensures.seeds
    (λ yes_told. kept_then (of.contents mid) before c.in-Ok.job c.in-Ok.ensures.contents (c.in-Ok.ensures.ok yes_told)) c.in-Err-add.ensures.fault

pub returns-in-Err-add-clause-kept : goal.returns-in-Err-add-clause-kept
returns-in-Err-add-clause-kept g c early =
    let of = g.V.Volume in
    let mid = c.read_job.new.volume in
    absurd (none_refused (Rose (of.faults mid) (of.faults c.add.new.volume)) (λ f at. IsTrue (of.tells mid) → IsDamaged (of.contents mid) f at)
    (λ known adds. IsTrue (of.tells mid) → KeepsJob (of.contents mid) c.in-Ok.job → Filled (g.C.Clock.gives c.args.clock.now) c.in-Ok-take_seeds.seeds (of.contents mid) (of.contents c.add.new.volume) known adds)
    c.in-Err-add.status c.in-Err-add.ensures.fault early)

pub returns-in-Err-add-clause-unshown : goal.returns-in-Err-add-clause-unshown
returns-in-Err-add-clause-unshown g c told_text told told_out is =
    let of = g.V.Volume in
    let mid = c.read_job.new.volume in
    let named : c.in-Err-add.status ≡ SinkFault = cc is in
    absurd (subst (IsCaused (volume_causes (Rose (of.faults mid) (of.faults c.add.new.volume)) ⊥ ⊥ (λ f at. IsTrue (of.tells mid) → IsDamaged (of.contents mid) f at)
    (λ known adds. IsTrue (of.tells mid) → KeepsJob (of.contents mid) c.in-Ok.job → Filled (g.C.Clock.gives c.args.clock.now) c.in-Ok-take_seeds.seeds (of.contents mid) (of.contents c.add.new.volume) known adds)))
    named c.in-Err-add.ensures.fault)

pub returns-in-Err-add-clause-any_moment : goal.returns-in-Err-add-clause-any_moment
returns-in-Err-add-clause-any_moment g c events settled =
    let of = g.V.Volume in
    let old = c.args.volume.now in
    let mid = c.read_job.new.volume in
    let gives = g.C.Clock.gives c.args.clock.now in
    let left = g.S.Source.left c.args.source.now in
    let told = IsTrue (g.S.Source.tells c.args.source.now) in
    let seeds = c.in-Ok-take_seeds.seeds in
    let reading = c.in-Ok.ensures.any_moment in
    let was : (i : Image) → of.may_leave mid i → of.may_leave old i = now_one of g.met.V.Volume.counts_now old mid (of.may_leave old) reading in
    let then = settled_on of (of.may_leave old) (λ i. HoldsEvents events (i journal_file)) old mid g.met.V.Volume.counts_now c.in-Ok.ensures.tells settled.each settled.tells reading in
    let same : of.contents mid ≡ of.contents old = c.in-Ok.ensures.contents in
    let keeps = kept_then (of.contents mid) (of.contents old) c.in-Ok.job same (c.in-Ok.ensures.ok settled.tells) in
    let run = subst (λ (image : Image). LeavesOnly of mid c.add.new.volume (After journal_file (HoldsEnqueued (λ l. l ≡ seeds) gives image events) (of.may_leave mid))) same (c.in-Err-add.ensures.any_moment events keeps then) in
    joined of old mid c.add.new.volume (After journal_file (HoldsEnqueued (λ l. told → AreSeedsIn left l) gives (of.contents old) events) (of.may_leave old))
    (weaker of old mid (of.may_leave old) (After journal_file (HoldsEnqueued (λ l. told → AreSeedsIn left l) gives (of.contents old) events) (of.may_leave old))
    (λ i here. unopened (λ l. told → AreSeedsIn left l) gives (of.contents old) events (of.may_leave old) i here (settled.each i here)) reading)
    (weaker of mid c.add.new.volume (After journal_file (HoldsEnqueued (λ l. l ≡ seeds) gives (of.contents old) events) (of.may_leave mid)) (After journal_file (HoldsEnqueued (λ l. told → AreSeedsIn left l) gives (of.contents old) events) (of.may_leave old))
    (enqueued_from (λ l. l ≡ seeds) (λ l. told → AreSeedsIn left l) gives (of.contents old) events (of.may_leave mid) (of.may_leave old)
    (λ l is yes_told. subst (AreSeedsIn left) (sym is) (c.in-Ok-take_seeds.ensures.seeds yes_told)) was)
    run)

pub returns-in-Ok-write_whole-clause-done : goal.returns-in-Ok-write_whole-clause-done
returns-in-Ok-write_whole-clause-done g c told_text told told_out =
    let of = g.V.Volume in
    let gives = g.C.Clock.gives c.args.clock.now in
    let mid = c.read_job.new.volume in
    let shown = c.in-Ok-add.shown.items in
    let seeds = c.in-Ok-take_seeds.seeds in
    let same : of.contents mid ≡ of.contents c.args.volume.now = c.in-Ok.ensures.contents in
    let keeps = kept_then (of.contents mid) (of.contents c.args.volume.now) c.in-Ok.job same (c.in-Ok.ensures.ok told) in
    let shows = subst (λ (image : Image). Shows gives seeds image (of.contents c.add.new.volume) shown) same (c.in-Ok-add.ensures.ok (c.in-Ok.ensures.tells ∙ told) keeps) in (
      shown,
      record { seeds = seeds; read = c.in-Ok-take_seeds.ensures.seeds told_text; shows = shows },
      c.in-Ok-write_whole.ensures.ok told_out ∙ ap (λ (l : List ℕ). g.W.Sink.written c.args.out.now ++ l) c.deref.ensures.value,
    )

pub returns-in-Ok-write_whole-clause-any_moment : goal.returns-in-Ok-write_whole-clause-any_moment
returns-in-Ok-write_whole-clause-any_moment g c events settled =
    let of = g.V.Volume in
    let old = c.args.volume.now in
    let mid = c.read_job.new.volume in
    let gives = g.C.Clock.gives c.args.clock.now in
    let left = g.S.Source.left c.args.source.now in
    let told = IsTrue (g.S.Source.tells c.args.source.now) in
    let seeds = c.in-Ok-take_seeds.seeds in
    let reading = c.in-Ok.ensures.any_moment in
    let was : (i : Image) → of.may_leave mid i → of.may_leave old i = now_one of g.met.V.Volume.counts_now old mid (of.may_leave old) reading in
    let then = settled_on of (of.may_leave old) (λ i. HoldsEvents events (i journal_file)) old mid g.met.V.Volume.counts_now c.in-Ok.ensures.tells settled.each settled.tells reading in
    let same : of.contents mid ≡ of.contents old = c.in-Ok.ensures.contents in
    let keeps = kept_then (of.contents mid) (of.contents old) c.in-Ok.job same (c.in-Ok.ensures.ok settled.tells) in
    let run = subst (λ (image : Image). LeavesOnly of mid c.add.new.volume (After journal_file (HoldsEnqueued (λ l. l ≡ seeds) gives image events) (of.may_leave mid))) same (c.in-Ok-add.ensures.any_moment events keeps then) in
    joined of old mid c.add.new.volume (After journal_file (HoldsEnqueued (λ l. told → AreSeedsIn left l) gives (of.contents old) events) (of.may_leave old))
    (weaker of old mid (of.may_leave old) (After journal_file (HoldsEnqueued (λ l. told → AreSeedsIn left l) gives (of.contents old) events) (of.may_leave old))
    (λ i here. unopened (λ l. told → AreSeedsIn left l) gives (of.contents old) events (of.may_leave old) i here (settled.each i here)) reading)
    (weaker of mid c.add.new.volume (After journal_file (HoldsEnqueued (λ l. l ≡ seeds) gives (of.contents old) events) (of.may_leave mid)) (After journal_file (HoldsEnqueued (λ l. told → AreSeedsIn left l) gives (of.contents old) events) (of.may_leave old))
    (enqueued_from (λ l. l ≡ seeds) (λ l. told → AreSeedsIn left l) gives (of.contents old) events (of.may_leave mid) (of.may_leave old)
    (λ l is yes_told. subst (AreSeedsIn left) (sym is) (c.in-Ok-take_seeds.ensures.seeds yes_told)) was)
    run)

pub returns-clause-unshown : goal.returns-clause-unshown
returns-clause-unshown g c told_text told told_out is =
    let of = g.V.Volume in
    let gives = g.C.Clock.gives c.args.clock.now in
    let mid = c.read_job.new.volume in
    let shown = c.in-Ok-add.shown.items in
    let seeds = c.in-Ok-take_seeds.seeds in
    let same : of.contents mid ≡ of.contents c.args.volume.now = c.in-Ok.ensures.contents in
    let keeps = kept_then (of.contents mid) (of.contents c.args.volume.now) c.in-Ok.job same (c.in-Ok.ensures.ok told) in
    let shows = subst (λ (image : Image). Shows gives seeds image (of.contents c.add.new.volume) shown) same (c.in-Ok-add.ensures.ok (c.in-Ok.ensures.tells ∙ told) keeps) in
    let front = c.in-Err-write_whole.ensures.err told_out in (
      shown,
      record { seeds = seeds; read = c.in-Ok-take_seeds.ensures.seeds told_text; shows = shows },
      subst (GainsFront (g.W.Sink.written c.args.out.now) (g.W.Sink.written c.write_whole.new.out)) c.deref.ensures.value (record { upto = front.0; within = front.1; is = front.2 }),
    )

pub returns-clause-any_moment : goal.returns-clause-any_moment
returns-clause-any_moment g c events settled =
    let of = g.V.Volume in
    let old = c.args.volume.now in
    let mid = c.read_job.new.volume in
    let gives = g.C.Clock.gives c.args.clock.now in
    let left = g.S.Source.left c.args.source.now in
    let told = IsTrue (g.S.Source.tells c.args.source.now) in
    let seeds = c.in-Ok-take_seeds.seeds in
    let reading = c.in-Ok.ensures.any_moment in
    let was : (i : Image) → of.may_leave mid i → of.may_leave old i = now_one of g.met.V.Volume.counts_now old mid (of.may_leave old) reading in
    let then = settled_on of (of.may_leave old) (λ i. HoldsEvents events (i journal_file)) old mid g.met.V.Volume.counts_now c.in-Ok.ensures.tells settled.each settled.tells reading in
    let same : of.contents mid ≡ of.contents old = c.in-Ok.ensures.contents in
    let keeps = kept_then (of.contents mid) (of.contents old) c.in-Ok.job same (c.in-Ok.ensures.ok settled.tells) in
    let run = subst (λ (image : Image). LeavesOnly of mid c.add.new.volume (After journal_file (HoldsEnqueued (λ l. l ≡ seeds) gives image events) (of.may_leave mid))) same (c.in-Ok-add.ensures.any_moment events keeps then) in
    joined of old mid c.add.new.volume (After journal_file (HoldsEnqueued (λ l. told → AreSeedsIn left l) gives (of.contents old) events) (of.may_leave old))
    (weaker of old mid (of.may_leave old) (After journal_file (HoldsEnqueued (λ l. told → AreSeedsIn left l) gives (of.contents old) events) (of.may_leave old))
    (λ i here. unopened (λ l. told → AreSeedsIn left l) gives (of.contents old) events (of.may_leave old) i here (settled.each i here)) reading)
    (weaker of mid c.add.new.volume (After journal_file (HoldsEnqueued (λ l. l ≡ seeds) gives (of.contents old) events) (of.may_leave mid)) (After journal_file (HoldsEnqueued (λ l. told → AreSeedsIn left l) gives (of.contents old) events) (of.may_leave old))
    (enqueued_from (λ l. l ≡ seeds) (λ l. told → AreSeedsIn left l) gives (of.contents old) events (of.may_leave mid) (of.may_leave old)
    (λ l is yes_told. subst (AreSeedsIn left) (sym is) (c.in-Ok-take_seeds.ensures.seeds yes_told)) was)
    run)
