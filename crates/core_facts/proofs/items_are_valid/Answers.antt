use Rattle.core_facts.proofs.Adding.{made}
use Rattle.core_facts.proofs.Making.{address, rank}
use Rattle.core_facts.proofs.items_are_valid.Goals as goal

pub returns : goal.returns
returns c = record { address = address; rank = rank; made = made }
