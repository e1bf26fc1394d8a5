-- What is kept of the robots file of a class, and what that says at a time.
--     said_at kept t      what is kept says for a day
--     kept_verdict kept t uri, kept_delay kept t      the verdict on an address and the delay in seconds
--     said_by_status agent class text      what a robots file that came says
use Rattle.std.specs.Prelude.{ℕ, ◌+◌, ◌==◌, nat_le, List, take, Option, Some, None, if◌then◌else◌}
use Rattle.crawl_kinds.specs.declared.event.Verdict.{Verdict}
use Rattle.crawl_kinds.specs.declared.event.Verdict.TheVariants.{Allowed, Precluded, Needed, Unreachable}
use Rattle.crawl_history.specs.Robots.{robots_bytes, robots_life}
use Rattle.robots_spec.specs.Groups.{agent_rules}
use Rattle.robots_spec.specs.Patterns.{robots_path_of}
use Rattle.core_facts.specs.RobotsAnswer.{allows_path}
use Rattle.frontier_core.specs.declared.robots.KeptRobots.{KeptRobots}
use Rattle.frontier_core.specs.declared.robots.RobotsSay.{RobotsSay}
use Rattle.frontier_core.specs.declared.robots.RobotsSay.TheVariants.{Closed, Rules, Open}

-- what is kept, until it is a day old (RFC 9309 section 2.4)
abbrev pub said_at : Option KeptRobots → ℕ → Option RobotsSay
said_at None t = None
said_at (Some kept) t = if nat_le (kept.time + robots_life) t then None else Some kept.says

-- the verdict on an address by what is said
abbrev pub verdict_said : Option RobotsSay → List ℕ → Verdict
verdict_said None uri = Needed
verdict_said (Some Closed) uri = Unreachable
verdict_said (Some (Rules robots)) uri = if allows_path robots.rules (robots_path_of uri) then Allowed else Precluded
verdict_said (Some Open) uri = Allowed

-- the delay in seconds by what is said
abbrev pub delay_said : Option RobotsSay → Option ℕ
delay_said None = None
delay_said (Some Closed) = None
delay_said (Some (Rules robots)) = robots.delay
delay_said (Some Open) = None

-- the verdict on an address at t by what is kept of its class
abbrev pub kept_verdict : Option KeptRobots → ℕ → List ℕ → Verdict
kept_verdict kept t uri = verdict_said (said_at kept t) uri

-- the delay at t by what is kept of the class
abbrev pub kept_delay : Option KeptRobots → ℕ → Option ℕ
kept_delay kept t = delay_said (said_at kept t)

-- what a robots file says to the agent, by the first digit of its status and its text, of which the first bytes are read
abbrev pub said_by_status : List ℕ → ℕ → List ℕ → RobotsSay
said_by_status agent class text =
    if class == 5 then Closed
    else if class == 2 then Rules (agent_rules (take robots_bytes text) agent)
    else Open
