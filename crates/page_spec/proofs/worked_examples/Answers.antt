use Rattle.page_spec.proofs.Worked.{peers, requests, responses}
use Rattle.page_spec.proofs.worked_examples.Goals as goal

pub returns : goal.returns
returns c = record { requests = requests; peers = peers; responses = responses }
