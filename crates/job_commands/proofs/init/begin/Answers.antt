use Rattle.std.proofs.Common.{◌≡◌, inr, ◌∷◌, ◌++◌, [], ℕ, List, Err, ap, sym, ◌∙◌, subst, arith}
use Rattle.std.specs.Prelude.{IsTrue}
use Rattle.crawl_traits.specs.Causes.{Rose}
use Rattle.crawl_traits.specs.Images.{After}
use Rattle.crawl_traits.specs.Runs.{LeavesOnly}
use Rattle.crawl_traits.specs.declared.file.FileId.TheVariants as file
use Rattle.gate_log.specs.Blocks.{Counts, IsBody}
use Rattle.gate_log.specs.Rest.{CountsOneMore}
use Rattle.job_ranges.specs.Laws.{IsInRange}
use Rattle.recover_journal.specs.Holds.{journal_file, HoldsEvents}
use Rattle.open_crawl.specs.Damage.{IsCrawlDamage}
use Rattle.open_crawl.specs.JobFile.{IsTextOfJob}
use Rattle.job_commands.specs.Causes.{IsCaused, volume_causes}
use Rattle.job_commands.specs.Init.{HoldsInitiated}
use Rattle.job_commands.specs.Opened.{IsDamagedAnew}
use Rattle.job_commands.proofs.Caused.{rose_before, store_caused}
use Rattle.job_commands.proofs.Openings.{found_here}
use Rattle.job_commands.proofs.Runs.{begun_leaves, job_apart, settled_on, written_leaves}
use Rattle.job_commands.proofs.init.begin.Goals as goal

pub write_job-requires : goal.write_job-requires
write_job-requires g c =
    let own = c.args.own in
    let range : IsInRange own.text.items own.job.settings own.job.seeds = c.job_is_in_range.ensures own.text.items own.job.settings own.job.seeds own.job.scope c.requires.job.is in
    subst IsBody (sym c.deref.ensures.value) (record { not_empty = range.text.0; no_longer = omega (arith, range.text.1) })

pub returns-in-Err-clause-any_moment : goal.returns-in-Err-clause-any_moment
returns-in-Err-clause-any_moment g c events settled =
    let of = g.V.Volume in
    let gives = g.C.Clock.gives c.args.clock.now in
    let text = c.deref.result.now in
    let is : IsTextOfJob text c.args.own.job = subst (λ (t : List ℕ). IsTextOfJob t c.args.own.job) (sym c.deref.ensures.value) c.requires.job in
    subst (λ (t : List ℕ). LeavesOnly of c.args.volume.now c.write_job.new.volume (HoldsInitiated (λ own. own ≡ t) gives events (of.may_leave c.args.volume.now))) c.deref.ensures.value
    (written_leaves of g.met.V.Volume.counts_now gives text events c.args.volume.now c.write_job.new.volume c.args.own.job is settled
    (c.in-Err.ensures.any_moment (record { tells = settled.tells; each = λ i was. (settled.each i was).0 })))

pub returns-in-Ok-open-clause-ok : goal.returns-in-Ok-open-clause-ok
returns-in-Ok-open-clause-ok g c told =
    let before = g.V.Volume.contents c.args.volume.now in
    let told_then : IsTrue (g.V.Volume.tells c.write_job.new.volume) = c.in-Ok.ensures.tells ∙ told in
    let opened = c.in-Ok-open.ensures.ok told_then in
    let fit = c.in-Ok-open.ensures.fit told_then in
    let same : g.V.Volume.contents c.write_job.new.volume journal_file ≡ before journal_file = c.in-Ok.ensures.others told journal_file job_apart in
    let written : Counts (c.args.own.text.items ∷ []) (g.V.Volume.contents c.write_job.new.volume file.Job) =
    subst (λ (t : List ℕ). Counts (t ∷ []) (g.V.Volume.contents c.write_job.new.volume file.Job)) c.deref.ensures.value (c.in-Ok.ensures.ok told) in
    record {
      found = found_here c.one_journal.ensures.one before opened.0 fit.0 (subst (HoldsEvents opened.0) same opened.2) (subst (HoldsEvents fit.0) same fit.1) fit.2;
      opens = record { job = c.args.own.job; is = c.requires.job; moment = c.now.result; given = c.now.ensures; new = opened.1; begins = opened.3 };
      keeps = subst (Counts (c.args.own.text.items ∷ [])) (sym (c.in-Ok-open.ensures.others told_then file.Job (λ e. job_apart (sym e)))) written;
      holds = c.a_journal_at_rest.ensures.read _ c.open.new.volume (opened.0 ++ opened.1) opened.4.journal;
      others = λ f apart other. c.in-Ok-open.ensures.others told_then f other ∙ c.in-Ok.ensures.others told f apart;
    }

pub returns-in-Ok-open-clause-any_moment : goal.returns-in-Ok-open-clause-any_moment
returns-in-Ok-open-clause-any_moment g c events settled =
    let of = g.V.Volume in
    let gives = g.C.Clock.gives c.args.clock.now in
    let text = c.deref.result.now in
    let is : IsTextOfJob text c.args.own.job = subst (λ (t : List ℕ). IsTextOfJob t c.args.own.job) (sym c.deref.ensures.value) c.requires.job in
    let first = c.in-Ok.ensures.any_moment (record { tells = settled.tells; each = λ i was. (settled.each i was).0 }) in
    let then = settled_on of (After file.Job (CountsOneMore [] text) (of.may_leave c.args.volume.now)) (λ i. HoldsEvents events (i journal_file)) c.args.volume.now c.write_job.new.volume g.met.V.Volume.counts_now c.in-Ok.ensures.tells
    (λ i a. subst (HoldsEvents events) (sym (a.by.elsewhere journal_file job_apart)) (settled.each a.old a.was).1) settled.tells first in
    subst (λ (t : List ℕ). LeavesOnly of c.args.volume.now c.open.new.volume (HoldsInitiated (λ own. own ≡ t) gives events (of.may_leave c.args.volume.now))) c.deref.ensures.value
    (begun_leaves of g.met.V.Volume.counts_now gives text events c.args.volume.now c.write_job.new.volume c.open.new.volume c.args.own.job c.now.result is c.now.ensures settled first
    (c.in-Ok.ensures.durable settled.tells) (c.in-Ok-open.ensures.any_moment events then))

pub returns-clause-fault : goal.returns-clause-fault
returns-clause-fault g c =
    let of = g.V.Volume in
    let before = of.contents c.args.volume.now in
    let rose = Rose (of.faults c.args.volume.now) (of.faults c.open.new.volume) in
    let told = IsTrue (of.tells c.args.volume.now) in
    subst (IsCaused (volume_causes rose ⊥ ⊥ (λ f at. told → IsDamagedAnew before f at) (λ known adds. ⊥))) (sym c.status_of-in-Err-open.ensures)
    (store_caused c.in-Err-open.fault rose ⊥ ⊥ journal_file (λ at. IsCrawlDamage at (of.contents c.write_job.new.volume journal_file)) (λ f at. told → IsDamagedAnew before f at) (λ known adds. ⊥) told
    (λ is. rose_before (of.faults c.args.volume.now) (of.faults c.write_job.new.volume) (of.faults c.open.new.volume) c.in-Ok.ensures.cause.later (c.in-Err-open.ensures.cause.volume (ap Err is)))
    (λ yes_told. c.in-Err-open.ensures.damaged (c.in-Ok.ensures.tells ∙ yes_told))
    (λ named at damage yes_told. inr ((damage yes_told).0, subst (IsCrawlDamage at) (c.in-Ok.ensures.others yes_told journal_file job_apart) (damage yes_told).1)))

pub returns-clause-any_moment : goal.returns-clause-any_moment
returns-clause-any_moment g c events settled =
    let of = g.V.Volume in
    let gives = g.C.Clock.gives c.args.clock.now in
    let text = c.deref.result.now in
    let is : IsTextOfJob text c.args.own.job = subst (λ (t : List ℕ). IsTextOfJob t c.args.own.job) (sym c.deref.ensures.value) c.requires.job in
    let first = c.in-Ok.ensures.any_moment (record { tells = settled.tells; each = λ i was. (settled.each i was).0 }) in
    let then = settled_on of (After file.Job (CountsOneMore [] text) (of.may_leave c.args.volume.now)) (λ i. HoldsEvents events (i journal_file)) c.args.volume.now c.write_job.new.volume g.met.V.Volume.counts_now c.in-Ok.ensures.tells
    (λ i a. subst (HoldsEvents events) (sym (a.by.elsewhere journal_file job_apart)) (settled.each a.old a.was).1) settled.tells first in
    subst (λ (t : List ℕ). LeavesOnly of c.args.volume.now c.open.new.volume (HoldsInitiated (λ own. own ≡ t) gives events (of.may_leave c.args.volume.now))) c.deref.ensures.value
    (begun_leaves of g.met.V.Volume.counts_now gives text events c.args.volume.now c.write_job.new.volume c.open.new.volume c.args.own.job c.now.result is c.now.ensures settled first
    (c.in-Ok.ensures.durable settled.tells) (c.in-Err-open.ensures.any_moment events then))
