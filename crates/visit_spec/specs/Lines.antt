-- The line of an event on the output.
--     line_of outcome code uri      the line of an end
--     log_line e      that of an event: ends alone have one
use Rattle.std.specs.Prelude.{ℕ, ℤ, List, [], ◌++◌, codes}
use Rattle.std.specs.Fmt.{signed_decimal}
use Rattle.crawl_kinds.specs.declared.event.Event.{Event}
use Rattle.crawl_kinds.specs.declared.event.Event.TheVariants.{Session, Seeds, Emit, Finish}
use Rattle.crawl_kinds.specs.declared.event.Outcome.{Outcome}
use Rattle.crawl_kinds.specs.declared.event.Outcome.TheVariants.{Retry}

-- CODE URI, and nothing of what is tried again
abbrev pub line_of : Outcome → ℤ → List ℕ → List ℕ
line_of Retry code uri = []
line_of other code uri = signed_decimal code ++ (codes " " ++ (uri ++ codes "\n"))

abbrev pub log_line : Event → List ℕ
log_line (Session time job format) = []
log_line (Seeds time list adds) = []
log_line (Emit time caller ticket verdict item) = []
log_line (Finish time caller ticket item end adds) = line_of end.outcome end.code item.uri
