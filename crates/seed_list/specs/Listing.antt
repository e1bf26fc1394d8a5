-- What is read of lines.
--     IsListOf list all      the seeds and prefixes of the lines of a job's text, none of which is refused
--     AreSeedsOf seeds all      the seeds of lines that are added, none of which is bad
use Rattle.std.specs.Prelude.{◌≡◌, ℕ, List, length, count_by, All}
use Rattle.crawl_kinds.specs.Address.{IsUri}
use Rattle.seed_list.specs.declared.list.SeedList.{SeedList}
use Rattle.seed_list.specs.Bad.{AreGood, IsRefused, IsRefusedSeed}
use Rattle.seed_list.specs.Lines.{is_seed_line}
use Rattle.seed_list.specs.Seeds.{prefixes_in, seeds_in}

-- the list is that of these lines, each of which is taken
pub record IsListOf (list : SeedList) (all : List (List ℕ)) : Type 0 where
  pub seeds : list.seeds ≡ seeds_in all
  pub prefixes : list.prefixes ≡ prefixes_in all
  pub taken : All (λ line. IsRefused line → ⊥) all
  pub addresses : All IsUri list.seeds
  pub count : length list.seeds ≡ count_by is_seed_line all

-- the seeds are those of these lines, none of which is bad
pub record AreSeedsOf (seeds : List (List ℕ)) (all : List (List ℕ)) : Type 0 where
  pub same : seeds ≡ seeds_in all
  pub good : AreGood IsRefusedSeed all
  pub addresses : All IsUri seeds
  pub count : length seeds ≡ count_by is_seed_line all
