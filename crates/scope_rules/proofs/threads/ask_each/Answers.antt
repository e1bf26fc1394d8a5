use denote.Param.Send.{sendable}
use Rattle.scope_rules.proofs.Crosses.{asked_send}
use Rattle.scope_rules.proofs.threads.ask_each.Goals as goal

pub for_each_mut-requires-send-T : goal.for_each_mut-requires-send-T
for_each_mut-requires-send-T g c κs within = search (asked_send, sendable)
