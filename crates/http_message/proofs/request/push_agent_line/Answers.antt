use Rattle.std.proofs.Common.{codes}
use Rattle.page_spec.specs.Request.{agent_line}
use Rattle.http_message.proofs.Joined.{joined3}
use Rattle.http_message.proofs.request.push_agent_line.Goals as goal

pub returns : goal.returns
returns c = joined3 _ _ _ _ (codes "User-Agent: ") (agent_line c.args.settings.now) _ c.in_ok-push_str.ensures.bytes c.in_ok-push_agent.ensures c.in_ok-push_str-2.ensures.bytes
