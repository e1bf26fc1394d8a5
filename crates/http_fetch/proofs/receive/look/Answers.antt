use Rattle.http_fetch.proofs.receive.look.Goals as goal

pub returns-in-Never-clause-decides : goal.returns-in-Never-clause-decides
returns-in-Never-clause-decides c = c.read_front.ensures.never c.in-Never.is
