use Rattle.recover_journal.proofs.Resting.{rests_on_ok, leaves_more}
use Rattle.recover_journal.proofs.journal.Journal.append.Goals as goal

pub returns-clause-ok : goal.returns-clause-ok
returns-clause-ok g c =
    rests_on_ok g.V.Volume c.args.self.now _ c.args.volume.now c.append.new.volume c.args.block.now c.append.result c.append.ensures.file c.append.ensures.ok

pub returns-clause-any_moment : goal.returns-clause-any_moment
returns-clause-any_moment g c events more rests own =
    leaves_more g.V.Volume c.args.self.now c.args.volume.now c.append.new.volume c.args.block.now events more rests own c.append.ensures.any_moment
