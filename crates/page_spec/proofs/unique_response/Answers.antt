use Rattle.page_spec.proofs.Unique.{one_response}
use Rattle.page_spec.proofs.unique_response.Goals as goal

pub returns : goal.returns
returns c = one_response
