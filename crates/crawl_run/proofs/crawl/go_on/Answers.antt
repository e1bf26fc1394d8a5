use Rattle.std.proofs.Common.{◌≡◌, ◌≢◌, ◌≤◌, ◌++◌, ℕ, List, [], Err, sym, ◌∙◌, subst}
use Rattle.std.specs.Prelude.{IsTrue}
use Rattle.crawl_kinds.specs.declared.event.Event.{Event}
use Rattle.crawl_kinds.specs.declared.settings.Settings.{Settings}
use Rattle.crawl_traits.specs.Causes.{Rose}
use Rattle.crawl_traits.specs.declared.file.FileId.{FileId}
use Rattle.process_chains.specs.Ends.{World, world}
use Rattle.recover_journal.specs.Holds.{journal_file}
use Rattle.recover_journal.specs.Rest.{Rests}
use Rattle.polite_crawl.specs.declared.why.Why.TheVariants as stopped
use Rattle.program_status.specs.declared.status.Status.{Status}
use Rattle.job_commands.specs.Causes.{IsCaused}
use Rattle.job_commands.specs.Opened.{KeepsJob, Reopened}
use Rattle.job_commands.specs.Statuses.{IsRefusal}
use Rattle.job_commands.proofs.Caused.{rose_before}
use Rattle.job_commands.proofs.Openings.{found_here}
use Rattle.crawl_run.specs.Crawl.{IsFull, IsOpened, IsReached, crawl_causes}
use Rattle.crawl_run.proofs.Going.{begun_by, full_by, kept_by, reach_by, recorded_by}
use Rattle.crawl_run.proofs.Visited.{never_refused, stopped_caused}
use Rattle.crawl_run.proofs.crawl.go_on.Goals as goal

pub crawl-requires-clause-limit : goal.crawl-requires-clause-limit
crawl-requires-clause-limit g c =
    let job = c.args.job in
    let range = c.job_is_in_range.ensures c.requires.job.0 job.settings job.seeds job.scope c.requires.job.1.is in
    subst (λ (st : Settings). st.max_response_bytes ≤ 8388608) (sym c.in-Ok.ensures.same.0) range.max_response_bytes.1

pub returns-in-Ok-Over-clause-done : goal.returns-in-Ok-Over-clause-done
returns-in-Ok-Over-clause-done g c told told_out keeps reached =
    let of = g.V.Volume in
    let l = g.L.Link in
    let gives = g.C.Clock.gives c.args.clock.now in
    let w : Settings → World = λ settings. world l gives settings c.args.link.now c.crawl.new.link in
    let before = of.contents c.args.volume.now in
    let mid = of.contents c.open.new.volume in
    let old = c.in-Ok.own.frontier in
    let opened = c.in-Ok.ensures.ok told in
    let fit = c.in-Ok.ensures.fit told in
    let others : (f : FileId) → f ≢ journal_file → mid f ≡ before f = λ f one. c.in-Ok.ensures.others told f one in
    let held : List Event = opened.0 ++ opened.1 in
    let core : old.events ≡ held = opened.4.core in
    let resting = subst (λ (es : List Event). Rests of c.in-Ok.own.journal c.open.new.volume es) (sym core) opened.4.journal in
    let crawl : Reopened gives before = record {
      found = found_here c.one_journal.ensures.one before opened.0 fit.0 opened.2 fit.1 fit.2;
      opens = record { job = c.args.job; is = keeps; moment = c.now.result; given = c.now.ensures; new = opened.1; begins = opened.3 };
    } in
    let is_opened : IsOpened crawl old = record { settings = c.in-Ok.ensures.same.0; scope = c.in-Ok.ensures.same.1; events = core } in
    let within = reach_by before mid c.args.job c.now.result opened.0 opened.1 old core opened.3 opened.2 others reached in
    let did = c.in-Ok-Over.ensures.done (c.in-Ok.ensures.tells ∙ told) told_out within old.events resting in
    let kept = kept_by of l g.C.Clock.gives c.visits_are_held.ensures (record { clock = c.args.clock.now; settings = old.settings; start = c.args.link.now; now = c.crawl.new.link })
    old c.crawl.new.crawl.frontier c.crawl.new.crawl.journal c.open.new.volume c.crawl.new.volume
    (g.W.Sink.written c.args.out.now) (g.W.Sink.written c.crawl.new.out) (l.exchanges c.args.link.now) (l.exchanges c.crawl.new.link) did.0 []
    c.a_journal_at_rest.ensures.read within did.1 in
    let begun = begun_by c.opening_goes_on.ensures c.requires.job.0 c.args.job c.now.result opened.0 opened.1 old c.requires.job.1 c.requires.forms opened.3
    c.in-Ok.ensures.same.0 c.in-Ok.ensures.same.1 core in
    record {
      core = c.crawl.new.crawl.frontier;
      recorded = recorded_by of w gives before crawl old c.crawl.new.crawl.frontier c.crawl.new.crawl.journal c.open.new.volume c.crawl.new.volume
          (g.W.Sink.written c.args.out.now) (g.W.Sink.written c.crawl.new.out) (l.exchanges c.args.link.now) (l.exchanges c.crawl.new.link) did.0 []
          c.legal_is_complete.ensures c.legal_is_polite.ensures c.a_journal_at_rest.ensures.read is_opened c.in-Ok.ensures.stands others kept begun did.1;
      over = c.crawl.ensures.over (cc);
    }

pub returns-clause-caused : goal.returns-clause-caused
returns-clause-caused g c =
    let of = g.V.Volume in
    let l = g.L.Link in
    let gives = g.C.Clock.gives c.args.clock.now in
    let w : Settings → World = λ settings. world l gives settings c.args.link.now c.crawl.new.link in
    let before = of.contents c.args.volume.now in
    let mid = of.contents c.open.new.volume in
    let old = c.in-Ok.own.frontier in
    let why = c.in-Err-crawl.why in
    let out = g.W.Sink in
    let rose = Rose (of.faults c.args.volume.now) (of.faults c.crawl.new.volume) in
    let sink = Rose (out.faults c.args.out.now) (out.faults c.crawl.new.out) in
    let full = λ (known adds : ℕ). IsTrue (of.tells c.args.volume.now) → IsTrue (out.tells c.args.out.now) → KeepsJob before c.args.job → IsReached before
    → IsFull w gives before (of.contents c.crawl.new.volume) (out.written c.args.out.now) (out.written c.crawl.new.out) (l.exchanges c.args.link.now) (l.exchanges c.crawl.new.link) known adds in
    let filled : (known adds : ℕ) → why ≡ stopped.Full known adds → full known adds =
    λ known adds is told told_out keeps reached.
    let opened = c.in-Ok.ensures.ok told in
    let fit = c.in-Ok.ensures.fit told in
    let others : (f : FileId) → f ≢ journal_file → mid f ≡ before f = λ f one. c.in-Ok.ensures.others told f one in
    let held : List Event = opened.0 ++ opened.1 in
    let core : old.events ≡ held = opened.4.core in
    let resting = subst (λ (es : List Event). Rests of c.in-Ok.own.journal c.open.new.volume es) (sym core) opened.4.journal in
    let crawl : Reopened gives before = record {
      found = found_here c.one_journal.ensures.one before opened.0 fit.0 opened.2 fit.1 fit.2;
      opens = record { job = c.args.job; is = keeps; moment = c.now.result; given = c.now.ensures; new = opened.1; begins = opened.3 };
    } in
    let is_opened : IsOpened crawl old = record { settings = c.in-Ok.ensures.same.0; scope = c.in-Ok.ensures.same.1; events = core } in
    let within = reach_by before mid c.args.job c.now.result opened.0 opened.1 old core opened.3 opened.2 others reached in
    let did = c.crawl.ensures.full known adds (cc) (c.in-Ok.ensures.tells ∙ told) told_out within old.events resting in
    let kept = kept_by of l g.C.Clock.gives c.visits_are_held.ensures (record { clock = c.args.clock.now; settings = old.settings; start = c.args.link.now; now = c.crawl.new.link })
    old did.1 c.crawl.new.crawl.journal c.open.new.volume c.crawl.new.volume
    (out.written c.args.out.now) (out.written c.crawl.new.out) (l.exchanges c.args.link.now) (l.exchanges c.crawl.new.link) did.0 did.2
    c.a_journal_at_rest.ensures.read within did.3 in
    let begun = begun_by c.opening_goes_on.ensures c.requires.job.0 c.args.job c.now.result opened.0 opened.1 old c.requires.job.1 c.requires.forms opened.3
    c.in-Ok.ensures.same.0 c.in-Ok.ensures.same.1 core in
    full_by of w gives before crawl old did.1 c.crawl.new.crawl.journal c.open.new.volume c.crawl.new.volume
    (out.written c.args.out.now) (out.written c.crawl.new.out) (l.exchanges c.args.link.now) (l.exchanges c.crawl.new.link) did.0 did.2 known adds
    c.legal_is_complete.ensures c.legal_is_polite.ensures c.a_journal_at_rest.ensures.read is_opened c.in-Ok.ensures.stands others kept begun did.3 did.4 in (
      subst (λ (s : Status). IsRefusal s → ⊥) (sym c.status_of_stop.ensures) (never_refused why),
      subst (IsCaused (crawl_causes rose sink full (of.tells c.args.volume.now) before)) (sym c.status_of_stop.ensures)
          (stopped_caused why rose sink full (of.tells c.args.volume.now) before
          (λ is. rose_before (of.faults c.args.volume.now) (of.faults c.open.new.volume) (of.faults c.crawl.new.volume) c.in-Ok.ensures.cause.later (c.crawl.ensures.volume (cc)))
          (λ is. c.crawl.ensures.sink (cc)) filled),
    )
