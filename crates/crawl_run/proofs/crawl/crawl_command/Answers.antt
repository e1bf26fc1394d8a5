use Rattle.std.proofs.Common.{◌≡◌, ℕ, List, ◌++◌, [], refl, sym, ◌∙◌, subst, arith}
use Rattle.std.specs.Prelude.{IsTrue}
use Rattle.std.specs.String.{string_bytes}
use Rattle.std.proofs.lemmas.List.{append-nil}
use Rattle.crawl_traits.specs.Causes.{Rose}
use Rattle.crawl_kinds.specs.declared.settings.Settings.{Settings}
use Rattle.process_chains.specs.Ends.{World, world}
use Rattle.program_status.specs.Gains.{Gains}
use Rattle.program_status.specs.Status.{status_text}
use Rattle.program_status.specs.declared.status.Status.{Status}
use Rattle.program_status.specs.declared.status.Status.TheVariants.{Full, Usage}
use Rattle.job_commands.proofs.Caused.{never_done, never_usage, rose_after, rose_before}
use Rattle.job_commands.proofs.Said.{gains_from}
use Rattle.crawl_run.specs.Crawl.{IsFull, IsReached, crawl_causes}
use Rattle.crawl_run.proofs.Visited.{said_caused}
use Rattle.crawl_run.proofs.Words.{no_words, some_words}
use Rattle.crawl_run.proofs.crawl.crawl_command.Goals as goal

pub returns-in-Ok : goal.returns-in-Ok
returns-in-Ok g c = record {
  usage = (λ none i is. absurd (cc is), λ some. absurd (some (no_words string_bytes c.args.more.now (sym c.if-not-is_empty.false ∙ c.is_empty.ensures))));
  done = λ is. c.in-Ok.ensures.done;
  caused = λ none other. absurd (other refl);
  kept = λ early. absurd early;
  said = λ says. absurd says;
  refused = λ early. absurd early;
  later = c.in-Ok.ensures.later;
  link_later = c.in-Ok.ensures.later_link;
  link_tells = c.in-Ok.ensures.tells.1;
}

pub returns-in-Err : goal.returns-in-Err
returns-in-Err g c =
    let of = g.V.Volume in
    let o = g.W.Sink in
    let l = g.L.Link in
    let gives = g.C.Clock.gives c.args.clock.now in
    let w : Settings → World = λ settings. world l gives settings c.args.link.now c.crawl_job.new.link in
    let volume = c.args.volume.now in
    let left = c.crawl_job.new.volume in
    let old = c.args.out.now in
    let mid = c.crawl_job.new.out in
    let new = c.say-in-Err.new.out in
    let status = c.in-Err.status in
    let rose = Rose (of.faults volume) (of.faults left) in
    let is_full = λ (shown : List ℕ) (known adds : ℕ). IsFull w gives (of.contents volume) (of.contents left) (o.written old) shown (l.exchanges c.args.link.now) (l.exchanges c.crawl_job.new.link) known adds in
    let full_then = λ (known adds : ℕ). IsTrue (of.tells volume) → IsTrue (o.tells old) → IsReached (of.contents volume) → is_full (o.written mid) known adds in
    let full = λ (known adds : ℕ). IsTrue (of.tells volume) → IsTrue (o.tells old) → IsReached (of.contents volume)
    → (shown : List ℕ) × is_full shown known adds × Gains (Rose (o.faults old) (o.faults new)) shown (o.written new) (status_text (Full known adds)) in
    let fuller : (known adds : ℕ) → status ≡ Full known adds → full_then known adds → full known adds =
    λ known adds is then told told_out reached. (
      o.written mid,
      then told told_out reached,
      subst (λ (s : Status). Gains (Rose (o.faults old) (o.faults new)) (o.written mid) (o.written new) (status_text s)) is
          (gains_from (Rose (o.faults mid) (o.faults new)) (Rose (o.faults old) (o.faults new)) (o.written mid) (o.written mid) (o.written new) (status_text status) refl
          (rose_before (o.faults old) (o.faults mid) (o.faults new) c.in-Err.ensures.later.1) (c.say-in-Err.ensures.said (c.in-Err.ensures.tells.0 ∙ told_out))),
    ) in
    let causes = crawl_causes rose (Rose (o.faults old) (o.faults mid)) full_then (of.tells volume) (of.contents volume) in
    record {
      usage = (λ none. never_usage causes status (λ other. c.in-Err.ensures.caused), λ some. absurd (some (no_words string_bytes c.args.more.now (sym c.if-not-is_empty.false ∙ c.is_empty.ensures))));
      done = λ is. absurd (never_done causes status c.in-Err.ensures.caused is);
      caused = λ none other. said_caused status rose (Rose (o.faults old) (o.faults mid)) (Rose (o.faults old) (o.faults new)) full_then full (of.tells volume) (of.contents volume)
          (λ x. rose_after (o.faults old) (o.faults mid) (o.faults new) x c.say-in-Err.ensures.later) fuller c.in-Err.ensures.caused;
      kept = c.in-Err.ensures.kept;
      said = λ says told.
          let grown = c.in-Err.ensures.grown told in (
            grown.0,
            gains_from (Rose (o.faults mid) (o.faults new)) (Rose (o.faults old) (o.faults new)) (o.written old ++ grown.0) (o.written mid) (o.written new) (status_text status) grown.1
                (rose_before (o.faults old) (o.faults mid) (o.faults new) c.in-Err.ensures.later.1) (c.say-in-Err.ensures.said (c.in-Err.ensures.tells.0 ∙ told)),
          );
      refused = λ early told.
          gains_from (Rose (o.faults mid) (o.faults new)) (Rose (o.faults old) (o.faults new)) (o.written old ++ []) (o.written mid) (o.written new) (status_text status)
          (c.in-Err.ensures.silent early ∙ sym (append-nil (o.written old)))
          (rose_before (o.faults old) (o.faults mid) (o.faults new) c.in-Err.ensures.later.1) (c.say-in-Err.ensures.said (c.in-Err.ensures.tells.0 ∙ told));
      later = (c.in-Err.ensures.later.0, omega (arith, c.in-Err.ensures.later.1, c.say-in-Err.ensures.later));
      link_later = c.in-Err.ensures.later_link;
      link_tells = c.in-Err.ensures.tells.1;
    }

pub returns-then-not-is_empty : goal.returns-then-not-is_empty
returns-then-not-is_empty g c =
    let o = g.W.Sink in
    let old = c.args.out.now in
    let new = c.say.new.out in
    let rose = Rose (o.faults old) (o.faults new) in
    let some = some_words string_bytes c.args.more.now (sym c.if-not-is_empty.true ∙ c.is_empty.ensures) in
    record {
      usage = (λ none. absurd (some none), λ more. refl);
      done = λ is. absurd (cc is);
      caused = λ none. absurd (some none);
      kept = λ early. refl;
      said = λ says told. ([], gains_from rose rose (o.written old ++ []) (o.written old) (o.written new) (status_text (Usage 1)) (sym (append-nil (o.written old))) (λ x. x) (c.say.ensures.said told));
      refused = λ early told. gains_from rose rose (o.written old ++ []) (o.written old) (o.written new) (status_text (Usage 1)) (sym (append-nil (o.written old))) (λ x. x) (c.say.ensures.said told);
      later = (omega (arith), c.say.ensures.later);
      link_later = λ fault. omega (arith);
      link_tells = refl;
    }
