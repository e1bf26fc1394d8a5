use Rattle.journal_read.specs.Reading.{left}
use Rattle.journal_read.proofs.Suited.{end_found}
use Rattle.journal_read.proofs.end.take_end.Goals as goal

pub returns-in-None : goal.returns-in-None
returns-in-None c x rest is e =
    c.in-None.ensures x
    (end_found (left c.args.parts.now) (left c.next.new.self) (left c.next-2.new.self) (left c.take_body.new.parts) (left c.next-3.new.self) c.in_ok-code.code.now c.in_ok-fetch.fetch.now c.in_ok-notes.notes.now c.in-Some.code c.in-Some-fetch_of.fetch c.in_ok-body.body c.in-Some-notes_of.notes c.args.outcome c.in_ok-code.ensures c.in_ok-fetch.ensures c.in_ok-body.ensures.1 c.in_ok-notes.ensures c.in-Some.ensures.0 c.in-Some.ensures.1 c.in-Some-fetch_of.ensures.0 c.in-Some-fetch_of.ensures.1 c.in_ok-body.ensures.0 c.in-Some-notes_of.ensures.0 c.in-Some-notes_of.ensures.1 x rest is e)
