use Rattle.finish_laws.proofs.Supported.{supported}
use Rattle.finish_laws.proofs.allowed_is_supported.Goals as goal

pub returns : goal.returns
returns c = supported
