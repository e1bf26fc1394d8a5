use Rattle.std.proofs.Common.{◌≡◌, ◌≤◌, ℕ, List, length, ◌∙◌, subst}
use Rattle.std.specs.Prelude.{IsTrue}
use Rattle.crawl_traits.specs.Causes.{Rose}
use Rattle.crawl_traits.specs.Images.{Image}
use Rattle.crawl_traits.specs.declared.file.FileId.TheVariants as file
use Rattle.crawl_traits.proofs.Moments.{weaker, joined, now_one}
use Rattle.recover_journal.specs.Holds.{journal_file, HoldsEvents}
use Rattle.job_commands.specs.Init.{Begun, HoldsInitiated}
use Rattle.job_commands.specs.Opened.{IsDamagedAnew}
use Rattle.job_commands.proofs.Caused.{begun_caused, checked_caused, none_refused, rose_before, taken_caused}
use Rattle.job_commands.proofs.Runs.{initiated_more, settled_on, untouched}
use Rattle.job_commands.proofs.init.init.Goals as goal

pub returns-in-Err-clause-caused : goal.returns-in-Err-clause-caused
returns-in-Err-clause-caused g c =
    checked_caused c.in-Err.status (Rose (g.V.Volume.faults c.args.volume.now) (g.V.Volume.faults c.check_no_job.new.volume)) (Rose (g.S.Source.faults c.args.source.now) (g.S.Source.faults c.args.source.now))
    (g.V.Volume.tells c.args.volume.now) (g.S.Source.tells c.args.source.now) (g.V.Volume.contents c.args.volume.now) (g.S.Source.left c.args.source.now) c.in-Err.ensures.fault

pub returns-in-Err-clause-any_moment : goal.returns-in-Err-clause-any_moment
returns-in-Err-clause-any_moment g c events settled =
    weaker g.V.Volume c.args.volume.now c.check_no_job.new.volume (g.V.Volume.may_leave c.args.volume.now) _ (λ i was. untouched _ _ events (g.V.Volume.may_leave c.args.volume.now) i was (settled.each i was)) c.in-Err.ensures.any_moment

pub returns-in-Err-take_job-clause-caused : goal.returns-in-Err-take_job-clause-caused
returns-in-Err-take_job-clause-caused g c =
    taken_caused c.in-Err-take_job.status (Rose (g.V.Volume.faults c.args.volume.now) (g.V.Volume.faults c.check_no_job.new.volume)) (Rose (g.S.Source.faults c.args.source.now) (g.S.Source.faults c.take_job.new.source))
    (g.V.Volume.tells c.args.volume.now) (g.S.Source.tells c.args.source.now) (g.V.Volume.contents c.args.volume.now) (g.S.Source.left c.args.source.now) c.in-Ok.ensures.ok c.in-Err-take_job.ensures.fault

pub returns-in-Err-take_job-clause-any_moment : goal.returns-in-Err-take_job-clause-any_moment
returns-in-Err-take_job-clause-any_moment g c events settled =
    weaker g.V.Volume c.args.volume.now c.check_no_job.new.volume (g.V.Volume.may_leave c.args.volume.now) _ (λ i was. untouched _ _ events (g.V.Volume.may_leave c.args.volume.now) i was (settled.each i was)) c.in-Ok.ensures.any_moment

pub returns-in-Ok-begin-clause-done : goal.returns-in-Ok-begin-clause-done
returns-in-Ok-begin-clause-done g c told_text told =
    let of = g.V.Volume in
    let gives = g.C.Clock.gives c.args.clock.now in
    let before : of.contents c.check_no_job.new.volume ≡ of.contents c.args.volume.now = c.in-Ok.ensures.contents in
    let begun = c.in-Ok-begin.ensures.ok (c.in-Ok.ensures.tells ∙ told) in (
      c.in-Ok.ensures.ok told,
      subst (λ (i : Image). Begun gives (g.S.Source.left c.args.source.now) i (of.contents c.begin.new.volume)) before
          (subst (λ (t : List ℕ). Begun gives t (of.contents c.check_no_job.new.volume) (of.contents c.begin.new.volume)) (c.in-Ok-take_job.ensures.text told_text) begun),
    )

pub returns-in-Ok-begin-clause-any_moment : goal.returns-in-Ok-begin-clause-any_moment
returns-in-Ok-begin-clause-any_moment g c events settled =
    let of = g.V.Volume in
    let old = c.args.volume.now in
    let mid = c.check_no_job.new.volume in
    let gives = g.C.Clock.gives c.args.clock.now in
    let left = g.S.Source.left c.args.source.now in
    let told = IsTrue (g.S.Source.tells c.args.source.now) in
    let text = c.in-Ok-take_job.own.text.items in
    let reading = c.in-Ok.ensures.any_moment in
    let was : (i : Image) → of.may_leave mid i → of.may_leave old i = now_one of g.met.V.Volume.counts_now old mid (of.may_leave old) reading in
    let then = settled_on of (of.may_leave old) (λ i. (length (i file.Job) ≤ 1) × HoldsEvents events (i journal_file)) old mid g.met.V.Volume.counts_now c.in-Ok.ensures.tells settled.each settled.tells reading in
    joined of old mid c.begin.new.volume (HoldsInitiated (λ t. told → t ≡ left) gives events (of.may_leave old))
    (weaker of old mid (of.may_leave old) (HoldsInitiated (λ t. told → t ≡ left) gives events (of.may_leave old)) (λ i here. untouched (λ t. told → t ≡ left) gives events (of.may_leave old) i here (settled.each i here)) reading)
    (weaker of mid c.begin.new.volume (HoldsInitiated (λ t. t ≡ text) gives events (of.may_leave mid)) (HoldsInitiated (λ t. told → t ≡ left) gives events (of.may_leave old))
    (initiated_more (λ t. t ≡ text) (λ t. told → t ≡ left) gives events (of.may_leave mid) (of.may_leave old) (λ t is yes_told. is ∙ c.in-Ok-take_job.ensures.text yes_told) was)
    (c.in-Ok-begin.ensures.any_moment events then))

pub returns-in-Err-begin-clause-caused : goal.returns-in-Err-begin-clause-caused
returns-in-Err-begin-clause-caused g c =
    let of = g.V.Volume in
    begun_caused c.in-Err-begin.status (Rose (of.faults c.check_no_job.new.volume) (of.faults c.begin.new.volume)) (Rose (of.faults c.args.volume.now) (of.faults c.begin.new.volume)) (Rose (g.S.Source.faults c.args.source.now) (g.S.Source.faults c.take_job.new.source))
    (of.tells c.check_no_job.new.volume) (of.tells c.args.volume.now) (g.S.Source.tells c.args.source.now) (of.contents c.check_no_job.new.volume) (of.contents c.args.volume.now) (g.S.Source.left c.args.source.now)
    (rose_before (of.faults c.args.volume.now) (of.faults c.check_no_job.new.volume) (of.faults c.begin.new.volume) c.in-Ok.ensures.later) c.in-Ok.ensures.tells c.in-Ok.ensures.contents c.in-Err-begin.ensures.fault

pub returns-in-Err-begin-clause-kept : goal.returns-in-Err-begin-clause-kept
returns-in-Err-begin-clause-kept g c early = absurd (none_refused (Rose (g.V.Volume.faults c.check_no_job.new.volume) (g.V.Volume.faults c.begin.new.volume)) (λ f at. IsTrue (g.V.Volume.tells c.check_no_job.new.volume) → IsDamagedAnew (g.V.Volume.contents c.check_no_job.new.volume) f at) (λ known adds. ⊥) c.in-Err-begin.status c.in-Err-begin.ensures.fault early)

pub returns-in-Err-begin-clause-any_moment : goal.returns-in-Err-begin-clause-any_moment
returns-in-Err-begin-clause-any_moment g c events settled =
    let of = g.V.Volume in
    let old = c.args.volume.now in
    let mid = c.check_no_job.new.volume in
    let gives = g.C.Clock.gives c.args.clock.now in
    let left = g.S.Source.left c.args.source.now in
    let told = IsTrue (g.S.Source.tells c.args.source.now) in
    let text = c.in-Ok-take_job.own.text.items in
    let reading = c.in-Ok.ensures.any_moment in
    let was : (i : Image) → of.may_leave mid i → of.may_leave old i = now_one of g.met.V.Volume.counts_now old mid (of.may_leave old) reading in
    let then = settled_on of (of.may_leave old) (λ i. (length (i file.Job) ≤ 1) × HoldsEvents events (i journal_file)) old mid g.met.V.Volume.counts_now c.in-Ok.ensures.tells settled.each settled.tells reading in
    joined of old mid c.begin.new.volume (HoldsInitiated (λ t. told → t ≡ left) gives events (of.may_leave old))
    (weaker of old mid (of.may_leave old) (HoldsInitiated (λ t. told → t ≡ left) gives events (of.may_leave old)) (λ i here. untouched (λ t. told → t ≡ left) gives events (of.may_leave old) i here (settled.each i here)) reading)
    (weaker of mid c.begin.new.volume (HoldsInitiated (λ t. t ≡ text) gives events (of.may_leave mid)) (HoldsInitiated (λ t. told → t ≡ left) gives events (of.may_leave old))
    (initiated_more (λ t. t ≡ text) (λ t. told → t ≡ left) gives events (of.may_leave mid) (of.may_leave old) (λ t is yes_told. is ∙ c.in-Ok-take_job.ensures.text yes_told) was)
    (c.in-Err-begin.ensures.any_moment events then))
