-- What may be done with an item.
--     verdict f a h item t      the verdict on the item at t
--     delay_by f state      the delay that a state of the robots rules asks for
use Rattle.std.specs.Prelude.{ℕ, ◌&&◌, List, Option, None, is_none, if◌then◌else◌}
use Rattle.crawl_kinds.specs.declared.event.Verdict.{Verdict}
use Rattle.crawl_kinds.specs.declared.event.Verdict.TheVariants.{Allowed, Precluded, Needed, Unsupported, Unreachable}
use Rattle.crawl_kinds.specs.declared.item.Item.{Item}
use Rattle.crawl_history.specs.History.{History}
use Rattle.crawl_history.specs.Outcomes.{is_prerequisite}
use Rattle.crawl_history.specs.Facts.{Facts, Archive}
use Rattle.crawl_history.specs.Robots.{RobotsState, NotKnown, NotReached, Rules, Followed, AllAllowed, robots_state}

-- the verdict on an address, by the state of its class
abbrev pub verdict_by : Facts → List ℕ → RobotsState → Verdict
verdict_by f uri NotKnown = Needed
verdict_by f uri NotReached = Unreachable
verdict_by f uri (Rules text) = if f.allows text uri then Allowed else Precluded
verdict_by f uri (Followed next) = Allowed
verdict_by f uri AllAllowed = Allowed

-- https needs a proxy; a robots file is asked for without leave; the state decides the rest
abbrev pub verdict : Facts → Archive → History → Item → ℕ → Verdict
verdict f a h item t =
    if f.is_secure item.uri && is_none f.settings.proxy
    then Unsupported
    else if is_prerequisite item
    then Allowed
    else verdict_by f item.uri (robots_state f a h item.class t)

-- the delay that the state asks for, in seconds
abbrev pub delay_by : Facts → RobotsState → Option ℕ
delay_by f NotKnown = None
delay_by f NotReached = None
delay_by f (Rules text) = f.delay text
delay_by f (Followed next) = None
delay_by f AllAllowed = None
