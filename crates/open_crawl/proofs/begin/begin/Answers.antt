use Rattle.std.proofs.Common.{◌≡◌, ◌≤◌, List, length, drop, ◌∙◌, ap, sym, subst}
use Rattle.std.specs.List.{AllByRecursion, list_any}
use Rattle.crawl_kinds.specs.declared.event.Event.{Event}
use Rattle.crawl_kinds.specs.declared.event.TheConstants.{MAX_MS}
use Rattle.crawl_history.specs.History.{history_of, is_session, last_time}
use Rattle.journal_valid.specs.Valid.{IsEvent}
use Rattle.job_ranges.specs.Laws.{IsInRange}
use Rattle.open_crawl.specs.Opening.{FitsBlock}
use Rattle.open_crawl.proofs.Begun.{all-append, any_later, behind, begins_fits, begins_session, more_valid}
use Rattle.open_crawl.proofs.begin.begin.Goals as goal

pub block_from-requires-clause-fits : goal.block_from-requires-clause-fits
block_from-requires-clause-fits c =
    let job = c.args.job in
    let begun = c.in_ok-frontier.ensures.begun in
    let range : IsInRange c.requires.job.0 job.settings job.seeds = c.job_is_in_range.ensures c.requires.job.0 job.settings job.seeds job.scope c.requires.job.1.is in
    let new : drop (length c.as_slice-before.result.now) c.events.result.now ≡ begun.0 =
    behind c.args.opened.events c.events.result.now begun.0 (length c.as_slice-before.result.now) (ap (λ (l : List Event). length l) c.as_slice-before.ensures) (c.events.ensures ∙ begun.2) in
    subst FitsBlock (sym new)
    (begins_fits c.items_are_valid.ensures c.requires.job.0 job range c.requires.forms c.args.now c.args.opened.events begun.0 c.requires.valid begun.1)

pub returns-clause-opened : goal.returns-clause-opened
returns-clause-opened c =
    let begun = c.in_ok-frontier.ensures.begun in
    ap (λ (l : List Event). list_any is_session l) begun.2
    ∙ any_later c.args.opened.events begun.0 (begins_session c.args.job c.args.now c.args.opened.events begun.0 begun.1)

pub returns-clause-in_time : goal.returns-clause-in_time
returns-clause-in_time c =
    let job = c.args.job in
    let begun = c.in_ok-frontier.ensures.begun in
    let range : IsInRange c.requires.job.0 job.settings job.seeds = c.job_is_in_range.ensures c.requires.job.0 job.settings job.seeds job.scope c.requires.job.1.is in
    let fits : FitsBlock begun.0 =
    begins_fits c.items_are_valid.ensures c.requires.job.0 job range c.requires.forms c.args.now c.args.opened.events begun.0 c.requires.valid begun.1 in
    subst (λ (l : List Event). last_time (history_of l) ≤ MAX_MS) (sym begun.2) (more_valid c.args.opened.events begun.0 c.requires.valid fits.valid)

pub returns-clause-valid : goal.returns-clause-valid
returns-clause-valid c =
    let job = c.args.job in
    let begun = c.in_ok-frontier.ensures.begun in
    let range : IsInRange c.requires.job.0 job.settings job.seeds = c.job_is_in_range.ensures c.requires.job.0 job.settings job.seeds job.scope c.requires.job.1.is in
    let fits : FitsBlock begun.0 =
    begins_fits c.items_are_valid.ensures c.requires.job.0 job range c.requires.forms c.args.now c.args.opened.events begun.0 c.requires.valid begun.1 in
    subst (AllByRecursion IsEvent) (sym begun.2) (all-append IsEvent c.args.opened.events begun.0 c.requires.valid fits.valid)
