use Rattle.open_crawl.proofs.Runs.{opened_leaves, whole_leaves}
use Rattle.open_crawl.proofs.opening.OpenCrawl.open.Goals as goal

pub returns-in-Err-clause-any_moment : goal.returns-in-Err-clause-any_moment
returns-in-Err-clause-any_moment g c events settled =
    opened_leaves g.V.Volume c.args.job c.args.now events c.args.volume.now c.open.new.volume settled (c.open.ensures.any_moment settled.tells)

pub returns-in-Err-begin-clause-any_moment : goal.returns-in-Err-begin-clause-any_moment
returns-in-Err-begin-clause-any_moment g c events settled =
    opened_leaves g.V.Volume c.args.job c.args.now events c.args.volume.now c.open.new.volume settled (c.open.ensures.any_moment settled.tells)

pub returns-in-Ok-append-clause-any_moment : goal.returns-in-Ok-append-clause-any_moment
returns-in-Ok-append-clause-any_moment g c events settled =
    let opened = c.in-Ok.both.1 in
    let begun = c.in-Ok-begin.ensures.begun in
    whole_leaves g.V.Volume c.args.job c.args.now events c.args.volume.now c.open.new.volume settled c.one_journal.ensures.one g.met.V.Volume.counts_now
    (g.met.V.Volume.reads_an_image c.args.volume.now settled.tells) opened.events opened.gates (c.in-Ok.ensures.holds settled.tells) c.append.new.volume begun.0 begun.1
    (c.open.ensures.any_moment settled.tells) (c.in-Ok-append.ensures.any_moment opened.events begun.0 (c.in-Ok.ensures.rests settled.tells) begun.3)

pub returns-in-Err-append-clause-any_moment : goal.returns-in-Err-append-clause-any_moment
returns-in-Err-append-clause-any_moment g c events settled =
    let opened = c.in-Ok.both.1 in
    let begun = c.in-Ok-begin.ensures.begun in
    whole_leaves g.V.Volume c.args.job c.args.now events c.args.volume.now c.open.new.volume settled c.one_journal.ensures.one g.met.V.Volume.counts_now
    (g.met.V.Volume.reads_an_image c.args.volume.now settled.tells) opened.events opened.gates (c.in-Ok.ensures.holds settled.tells) c.append.new.volume begun.0 begun.1
    (c.open.ensures.any_moment settled.tells) (c.in-Err-append.ensures.any_moment opened.events begun.0 (c.in-Ok.ensures.rests settled.tells) begun.3)
