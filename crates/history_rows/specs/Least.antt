-- The least add goes: two hosts of which each has a page and a robots file.
use Rattle.std.specs.Prelude.{◌≡◌, ℕ, true, false, List, [], ◌∷◌, Some}
use Rattle.crawl_kinds.specs.declared.item.Item.{Item}
use Rattle.crawl_history.specs.History.{history_of}
use Rattle.crawl_history.specs.Queues.{Add, all_adds, waiting_adds}
use Rattle.crawl_history.specs.Scans.{last_of}
use Rattle.crawl_history.specs.Waits.{wake}
use Rattle.crawl_history.specs.Emission.{answer}
use Rattle.emission_laws.specs.Choice.{add_at, may_go, goes_first}
use Rattle.emission_laws.specs.Laws.{answer_at}
use Rattle.history_rows.specs.Names.{class_b}
use Rattle.history_rows.specs.Toy.{sample, moment}
use Rattle.history_rows.specs.TwoHosts.{facts, files, page_a, page_b, robots_a, robots_b, begun_with_b, one, both, asked_a}

-- an add
abbrev pub add : ℕ → Item → Add
add ordinal item = record { ordinal = ordinal; item = item }

-- every class may be asked
abbrev pub awake : List ℕ → ℕ
awake class = 0

pub record LeastGoes : Type 0 where
  -- the last add of each key waits, by ordinal
  pub waiting : waiting_adds (history_of begun_with_b) ≡ add 1 page_b ∷ add 2 page_a ∷ []
  pub last : last_of (add_at page_a.key) (all_adds (history_of both)) ≡ Some (add 1 page_a)
  -- the lesser wake goes first, then the lesser class, rank and ordinal, and nothing before itself
  pub by_wake : goes_first (wake facts files (history_of one)) (add 2 page_b) (add 3 robots_a) ≡ true
  pub by_class : goes_first (wake facts files (history_of begun_with_b)) (add 2 page_a) (add 1 page_b) ≡ true
  pub by_rank : goes_first (wake facts files (history_of both)) (add 3 robots_a) (add 1 page_a) ≡ true
  pub by_ordinal : goes_first awake (add 1 page_a) (add 2 page_a) ≡ true
  pub later : goes_first awake (add 2 page_a) (add 1 page_a) ≡ false
  pub itself : goes_first awake (add 1 page_a) (add 1 page_a) ≡ false
  -- while the robots file of a host is out, nothing of it may go: the least of the other host does
  pub closed : may_go sample (history_of asked_a) (add 1 page_a) ≡ false
  pub free : may_go sample (history_of asked_a) (add 4 robots_b) ≡ true
  pub answered : answer facts files (history_of asked_a) moment ≡ answer_at (wake facts files (history_of asked_a) class_b) moment (add 4 robots_b)
