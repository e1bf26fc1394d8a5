-- Kinds of outcomes, and the items that are robots files.
use Rattle.std.specs.Prelude.{ℕ, Bool, true, false, ◌==◌, List, codes}
use Rattle.std.specs.List.{starts_with}
use Rattle.crawl_kinds.specs.declared.event.Outcome.{Outcome}
use Rattle.crawl_kinds.specs.declared.event.Outcome.TheVariants.{Success, Failure, Disregard, Retry}
use Rattle.crawl_kinds.specs.declared.item.Item.{Item}

-- whether the item is to be tried again
abbrev pub is_retry : Outcome → Bool
is_retry Success = false
is_retry Failure = false
is_retry Disregard = false
is_retry Retry = true

-- whether the item was fetched
abbrev pub is_success : Outcome → Bool
is_success Success = true
is_success Failure = false
is_success Disregard = false
is_success Retry = false

-- whether the item was fetched, or could not be
abbrev pub is_success_or_failure : Outcome → Bool
is_success_or_failure Success = true
is_success_or_failure Failure = true
is_success_or_failure Disregard = false
is_success_or_failure Retry = false

-- keys of robots files and of what they redirect to begin with `robots`
abbrev pub begins_with_robots : List ℕ → Bool
begins_with_robots key = starts_with (λ a b. a == b) key (codes "robots")

-- whether the item is a robots file, or what one redirects to
abbrev pub is_prerequisite : Item → Bool
is_prerequisite item = begins_with_robots item.key
