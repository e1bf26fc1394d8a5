use Rattle.std.proofs.Common.{◌≡◌, ◌≤◌, List, length, ◌∙◌, ap, sym, subst}
use Rattle.std.specs.Prelude.{◌==◌}
use Rattle.crawl_kinds.specs.declared.event.Event.{Event}
use Rattle.crawl_kinds.specs.declared.settings.Settings.{Settings}
use Rattle.crawl_history.specs.History.{is_session}
use Rattle.job_ranges.specs.Laws.{IsInRange}
use Rattle.open_crawl.specs.Opening.{next_session}
use Rattle.open_crawl.proofs.Begun.{alone, begun_again, begun_anew}
use Rattle.open_crawl.proofs.begin.begin_core.Goals as goal

pub returns-then-not-is_new-clause-begun : goal.returns-then-not-is_new-clause-begun
returns-then-not-is_new-clause-begun c =
    let test : c.is_empty-is_new.result ≡ (length c.args.opened.events == 0) = c.is_empty-is_new.ensures ∙ ap (λ (l : List Event). length l == 0) c.as_slice.ensures in
    let made : c.in_ok-session.session ≡ next_session c.args.job.settings c.args.opened.events c.args.now =
    c.in_ok-session.ensures ∙ ap (λ (l : List Event). next_session c.args.job.settings l c.args.now) c.as_slice-2.ensures in
    begun_again c.args.job c.args.now c.args.opened.events c.in_ok-frontier.frontier.events c.is_empty-is_new.result c.in_ok-session.session test c.if-not-is_new.true made
    c.in_ok-frontier.ensures.core.2

pub add_first-requires-clause-session : goal.add_first-requires-clause-session
add_first-requires-clause-session c =
    let test : c.is_empty-is_new.result ≡ (length c.args.opened.events == 0) = c.is_empty-is_new.ensures ∙ ap (λ (l : List Event). length l == 0) c.as_slice.ensures in (
      c.in_ok-session.session,
      alone c.args.opened.events c.in_ok-frontier.frontier.events c.is_empty-is_new.result c.in_ok-session.session test c.if-not-is_new.false c.in_ok-frontier.ensures.core.2,
      ap is_session c.in_ok-session.ensures,
    )

pub add_first-requires-clause-room : goal.add_first-requires-clause-room
add_first-requires-clause-room c =
    let job = c.args.job in
    let range : IsInRange c.requires.job.0 job.settings job.seeds = c.job_is_in_range.ensures c.requires.job.0 job.settings job.seeds job.scope c.requires.job.1.is in
    let few : length job.seeds ≤ job.settings.max_keys = range.seeds_within_keys in
    subst (λ (st : Settings). length job.seeds ≤ st.max_keys) (sym c.in_ok-frontier.ensures.core.0) few

pub returns-clause-begun : goal.returns-clause-begun
returns-clause-begun c =
    let test : c.is_empty-is_new.result ≡ (length c.args.opened.events == 0) = c.is_empty-is_new.ensures ∙ ap (λ (l : List Event). length l == 0) c.as_slice.ensures in
    let made : c.in_ok-session.session ≡ next_session c.args.job.settings c.args.opened.events c.args.now =
    c.in_ok-session.ensures ∙ ap (λ (l : List Event). next_session c.args.job.settings l c.args.now) c.as_slice-2.ensures in
    let added = c.in_ok-add_first.ensures.added in
    begun_anew c.args.job c.args.now c.args.opened.events c.in_ok-frontier.frontier c.add_first.new.frontier.events c.is_empty-is_new.result c.in_ok-session.session test c.if-not-is_new.false made
    c.in_ok-frontier.ensures.core added.0 added.1 added.2

pub returns-clause-stands : goal.returns-clause-stands
returns-clause-stands c pages a = c.in_ok-add_first.ensures.stands pages a (c.in_ok-frontier.ensures.stands pages a)
