use Rattle.std.proofs.Common.{◌≡◌, ◌∷◌, ◌++◌, [], ℕ, List, Err, ap, sym, ◌∙◌, subst}
use Rattle.std.specs.Prelude.{IsTrue}
use Rattle.crawl_kinds.specs.declared.event.Event.{Event}
use Rattle.crawl_kinds.specs.declared.settings.Settings.{Settings}
use Rattle.crawl_traits.specs.Causes.{Rose}
use Rattle.crawl_traits.specs.Images.{After}
use Rattle.crawl_traits.specs.Runs.{LeavesOnly}
use Rattle.crawl_traits.specs.declared.file.FileId.{FileId}
use Rattle.scope_spec.specs.Decision.{ScopeRules}
use Rattle.open_crawl.specs.Opening.{AddsSeeds, Begins, IsTooMany}
use Rattle.open_crawl.specs.Standing.{HoldsSeeded, StandsFor}
use Rattle.recover_journal.specs.Holds.{journal_file, HoldsEvents}
use Rattle.job_commands.specs.Causes.{IsCaused, volume_causes}
use Rattle.job_commands.specs.Enqueue.{Filled}
use Rattle.job_commands.specs.Opened.{IsDamaged, KeepsJob}
use Rattle.job_commands.specs.Queue.{IsShown}
use Rattle.job_commands.proofs.Caused.{rose_before, stop_caused}
use Rattle.job_commands.proofs.Openings.{found_here, same_events}
use Rattle.job_commands.proofs.Runs.{added_leaves, opened_leaves}
use Rattle.job_commands.proofs.enqueue.add.Goals as goal

pub returns-in-Err-clause-any_moment : goal.returns-in-Err-clause-any_moment
returns-in-Err-clause-any_moment g c events keeps settled =
    opened_leaves g.V.Volume g.met.V.Volume.counts_now (g.C.Clock.gives c.args.clock.now) c.args.seeds.now (g.V.Volume.contents c.args.volume.now) events c.args.job c.now-now.result c.args.volume.now c.open.new.volume keeps c.now-now.ensures
    (c.in-Err.ensures.any_moment events settled)

pub returns-in-Err-add_seeds-clause-fault : goal.returns-in-Err-add_seeds-clause-fault
returns-in-Err-add_seeds-clause-fault g c =
    let of = g.V.Volume in
    let own = c.in-Ok.crawl in
    let before = of.contents c.args.volume.now in
    let gives = g.C.Clock.gives c.args.clock.now in
    let seeds = c.args.seeds.now in
    let stop = c.in-Err-add_seeds.stop in
    let rose = Rose (of.faults c.args.volume.now) (of.faults c.add_seeds.new.volume) in
    let told = IsTrue (of.tells c.args.volume.now) in
    let damaged : FileId → ℕ → Type 0 = λ f at. told → IsDamaged before f at in
    let full : ℕ → ℕ → Type 0 = λ known adds. told → KeepsJob before c.args.job → Filled gives seeds before (of.contents c.add_seeds.new.volume) known adds in
    subst (IsCaused (volume_causes rose ⊥ ⊥ damaged full)) (sym c.status_of_stop.ensures)
    (stop_caused stop rose damaged full
    (λ is. rose_before (of.faults c.args.volume.now) (of.faults c.open.new.volume) (of.faults c.add_seeds.new.volume) c.in-Ok.ensures.cause.later (c.in-Err-add_seeds.ensures.cause (ap Err is)))
    (λ known adds is yes_told keeps.
    let opened = c.in-Ok.ensures.ok yes_told in
    let fit = c.in-Ok.ensures.fit yes_told in
    let events : List Event = opened.0 ++ opened.1 in
    let still : c.add_seeds.new.volume ≡ c.open.new.volume = c.in-Err-add_seeds.ensures.kept (λ failed. absurd (cc (is, failed))) in
    let many = c.in-Err-add_seeds.ensures.full known adds (ap Err is) in
    record {
      crawl = record {
        found = found_here c.one_journal.ensures.one before opened.0 fit.0 opened.2 fit.1 fit.2;
        opens = record { job = c.args.job; is = keeps; moment = c.now-now.result; given = c.now-now.ensures; new = opened.1; begins = opened.3 };
      };
      full = subst (λ (st : Settings). IsTooMany st c.args.job.scope events seeds known adds) c.in-Ok.ensures.same.0
          (subst (λ (sc : ScopeRules). IsTooMany own.frontier.settings sc events seeds known adds) c.in-Ok.ensures.same.1
          (subst (λ (es : List Event). IsTooMany own.frontier.settings own.frontier.scope es seeds known adds) opened.4.core many));
      holds = subst (λ v. HoldsEvents events (of.contents v journal_file)) (sym still) (c.a_journal_at_rest.ensures.read _ c.open.new.volume events opened.4.journal);
      others = λ f other. ap (λ v. of.contents v f) still ∙ c.in-Ok.ensures.others yes_told f other;
    }))

pub returns-in-Err-add_seeds-clause-any_moment : goal.returns-in-Err-add_seeds-clause-any_moment
returns-in-Err-add_seeds-clause-any_moment g c events keeps settled =
    let of = g.V.Volume in
    let own = c.in-Ok.crawl in
    let mid = c.open.new.volume in
    let new = c.add_seeds.new.volume in
    let seeds = c.args.seeds.now in
    let moment = c.now-now.result in
    let opened = c.in-Ok.ensures.ok settled.tells in
    let same : opened.0 ≡ events = same_events c.one_journal.ensures.one events opened.0 (of.contents c.args.volume.now journal_file) (settled.each (of.contents c.args.volume.now) (g.met.V.Volume.reads_an_image c.args.volume.now settled.tells)) opened.2 in
    let begins : Begins c.args.job moment events opened.1 = subst (λ (es : List Event). Begins c.args.job moment es opened.1) same opened.3 in
    let stands : StandsFor of own mid (events ++ opened.1) = subst (λ (es : List Event). StandsFor of own mid (es ++ opened.1)) same opened.4 in
    let run = c.in-Err-add_seeds.ensures.any_moment (events ++ opened.1) stands in
    let jobs : LeavesOnly of mid new (After journal_file (HoldsSeeded c.args.job.settings c.args.job.scope (events ++ opened.1) seeds moment) (of.may_leave mid)) =
    subst (λ (st : Settings). LeavesOnly of mid new (After journal_file (HoldsSeeded st c.args.job.scope (events ++ opened.1) seeds moment) (of.may_leave mid))) c.in-Ok.ensures.same.0
    (subst (λ (sc : ScopeRules). LeavesOnly of mid new (After journal_file (HoldsSeeded own.frontier.settings sc (events ++ opened.1) seeds moment) (of.may_leave mid))) c.in-Ok.ensures.same.1 run) in
    added_leaves of g.met.V.Volume.counts_now (g.C.Clock.gives c.args.clock.now) seeds (of.contents c.args.volume.now) events c.args.job moment c.args.volume.now mid new opened.1 keeps c.now-now.ensures begins
    (c.in-Ok.ensures.any_moment events settled) jobs

pub returns-in-Ok-shown-clause-ok : goal.returns-in-Ok-shown-clause-ok
returns-in-Ok-shown-clause-ok g c told keeps =
    let of = g.V.Volume in
    let own = c.in-Ok.crawl in
    let before = of.contents c.args.volume.now in
    let moment = c.now-now.result in
    let opened = c.in-Ok.ensures.ok told in
    let fit = c.in-Ok.ensures.fit told in
    let events : List Event = opened.0 ++ opened.1 in
    let added = c.in-Ok-add_seeds.ensures.ok events opened.4 in
    record {
      added = record {
        crawl = record {
          found = found_here c.one_journal.ensures.one before opened.0 fit.0 opened.2 fit.1 fit.2;
          opens = record { job = c.args.job; is = keeps; moment = moment; given = c.now-now.ensures; new = opened.1; begins = opened.3 };
        };
        event = added.0;
        adds = subst (λ (st : Settings). AddsSeeds st c.args.job.scope events c.args.seeds.now moment added.0) c.in-Ok.ensures.same.0
            (subst (λ (sc : ScopeRules). AddsSeeds own.frontier.settings sc events c.args.seeds.now moment added.0) c.in-Ok.ensures.same.1 added.1);
        holds = c.a_journal_at_rest.ensures.read _ c.add_seeds.new.volume (events ++ added.0 ∷ []) added.2.journal;
        others = λ f other. c.in-Ok-add_seeds.ensures.others (c.in-Ok.ensures.tells ∙ told) f other ∙ c.in-Ok.ensures.others told f other;
      };
      is = subst (λ (es : List Event). IsShown es c.in-Ok-shown.text.items) added.2.core c.in-Ok-shown.ensures;
    }

pub returns-in-Ok-shown-clause-any_moment : goal.returns-in-Ok-shown-clause-any_moment
returns-in-Ok-shown-clause-any_moment g c events keeps settled =
    let of = g.V.Volume in
    let own = c.in-Ok.crawl in
    let mid = c.open.new.volume in
    let new = c.add_seeds.new.volume in
    let seeds = c.args.seeds.now in
    let moment = c.now-now.result in
    let opened = c.in-Ok.ensures.ok settled.tells in
    let same : opened.0 ≡ events = same_events c.one_journal.ensures.one events opened.0 (of.contents c.args.volume.now journal_file) (settled.each (of.contents c.args.volume.now) (g.met.V.Volume.reads_an_image c.args.volume.now settled.tells)) opened.2 in
    let begins : Begins c.args.job moment events opened.1 = subst (λ (es : List Event). Begins c.args.job moment es opened.1) same opened.3 in
    let stands : StandsFor of own mid (events ++ opened.1) = subst (λ (es : List Event). StandsFor of own mid (es ++ opened.1)) same opened.4 in
    let run = c.in-Ok-add_seeds.ensures.any_moment (events ++ opened.1) stands in
    let jobs : LeavesOnly of mid new (After journal_file (HoldsSeeded c.args.job.settings c.args.job.scope (events ++ opened.1) seeds moment) (of.may_leave mid)) =
    subst (λ (st : Settings). LeavesOnly of mid new (After journal_file (HoldsSeeded st c.args.job.scope (events ++ opened.1) seeds moment) (of.may_leave mid))) c.in-Ok.ensures.same.0
    (subst (λ (sc : ScopeRules). LeavesOnly of mid new (After journal_file (HoldsSeeded own.frontier.settings sc (events ++ opened.1) seeds moment) (of.may_leave mid))) c.in-Ok.ensures.same.1 run) in
    added_leaves of g.met.V.Volume.counts_now (g.C.Clock.gives c.args.clock.now) seeds (of.contents c.args.volume.now) events c.args.job moment c.args.volume.now mid new opened.1 keeps c.now-now.ensures begins
    (c.in-Ok.ensures.any_moment events settled) jobs

pub returns-clause-any_moment : goal.returns-clause-any_moment
returns-clause-any_moment g c events keeps settled =
    let of = g.V.Volume in
    let own = c.in-Ok.crawl in
    let mid = c.open.new.volume in
    let new = c.add_seeds.new.volume in
    let seeds = c.args.seeds.now in
    let moment = c.now-now.result in
    let opened = c.in-Ok.ensures.ok settled.tells in
    let same : opened.0 ≡ events = same_events c.one_journal.ensures.one events opened.0 (of.contents c.args.volume.now journal_file) (settled.each (of.contents c.args.volume.now) (g.met.V.Volume.reads_an_image c.args.volume.now settled.tells)) opened.2 in
    let begins : Begins c.args.job moment events opened.1 = subst (λ (es : List Event). Begins c.args.job moment es opened.1) same opened.3 in
    let stands : StandsFor of own mid (events ++ opened.1) = subst (λ (es : List Event). StandsFor of own mid (es ++ opened.1)) same opened.4 in
    let run = c.in-Ok-add_seeds.ensures.any_moment (events ++ opened.1) stands in
    let jobs : LeavesOnly of mid new (After journal_file (HoldsSeeded c.args.job.settings c.args.job.scope (events ++ opened.1) seeds moment) (of.may_leave mid)) =
    subst (λ (st : Settings). LeavesOnly of mid new (After journal_file (HoldsSeeded st c.args.job.scope (events ++ opened.1) seeds moment) (of.may_leave mid))) c.in-Ok.ensures.same.0
    (subst (λ (sc : ScopeRules). LeavesOnly of mid new (After journal_file (HoldsSeeded own.frontier.settings sc (events ++ opened.1) seeds moment) (of.may_leave mid))) c.in-Ok.ensures.same.1 run) in
    added_leaves of g.met.V.Volume.counts_now (g.C.Clock.gives c.args.clock.now) seeds (of.contents c.args.volume.now) events c.args.job moment c.args.volume.now mid new opened.1 keeps c.now-now.ensures begins
    (c.in-Ok.ensures.any_moment events settled) jobs
