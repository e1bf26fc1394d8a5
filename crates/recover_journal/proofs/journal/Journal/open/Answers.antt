use Rattle.std.proofs.lemmas.Result.{err_from_is_err_and}
use Rattle.std.proofs.Common.{subst}
use Rattle.crawl_traits.specs.declared.file.FileId.{FileId}
use Rattle.gate_log.specs.Blocks.{Counts, EndsAt}
use Rattle.gate_log.specs.Reading.{bodies_of}
use Rattle.recover_journal.specs.Holds.{journal_file}
use Rattle.recover_journal.proofs.Resting.{leaves_kept, reading_kept, ends_counts}
use Rattle.recover_journal.proofs.journal.Journal.open.Goals as goal

pub returns-in_err-log-clause-any_moment : goal.returns-in_err-log-clause-any_moment
returns-in_err-log-clause-any_moment g c told = leaves_kept g.V.Volume c.args.volume.now c.open.new.volume (c.open.ensures.any_moment told)

pub returns-in_err-opened-clause-any_moment : goal.returns-in_err-opened-clause-any_moment
returns-in_err-opened-clause-any_moment g c told = leaves_kept g.V.Volume c.args.volume.now c.open.new.volume (c.open.ensures.any_moment told)

pub returns-in_err-opened-clause-kept : goal.returns-in_err-opened-clause-kept
returns-in_err-opened-clause-kept g c told =
    let is = c.in_ok-log.ensures.ok told in
    let before = g.V.Volume.contents c.args.volume.now journal_file in
    let after = g.V.Volume.contents c.open.new.volume journal_file in
    let ends : Counts (bodies_of c.in_ok-log.blocks) after = ends_counts (bodies_of c.in_ok-log.blocks) after (subst (λ (f : FileId). EndsAt (bodies_of c.in_ok-log.blocks) (g.V.Volume.contents c.open.new.volume f)) c.in_ok-log.ensures.file is.1.ends) in
    let p = err_from_is_err_and c.from_residual-in_err-opened.result c.from_residual-in_err-opened.ensures.1 in
    rw (p.1) (λ other. reading_kept c.one_reading.ensures.one c.one_reading.ensures.damaged before after (bodies_of c.in_ok-log.blocks) is.0.counts ends)

pub returns-clause-any_moment : goal.returns-clause-any_moment
returns-clause-any_moment g c told = leaves_kept g.V.Volume c.args.volume.now c.open.new.volume (c.open.ensures.any_moment told)
