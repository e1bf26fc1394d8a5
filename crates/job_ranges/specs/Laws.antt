-- The ranges of a job.
--     IsInRange bytes settings seeds      a text's length, each setting and the number of seeds are within their ranges
--     JobIsInRange      so it is of every job
use Rattle.std.specs.Prelude.{ℕ, ◌≤◌, List, length, IfSome, IsTrue}
use Rattle.crawl_kinds.specs.declared.settings.Settings.{Settings}
use Rattle.crawl_kinds.specs.Text.{is_text, is_visible}
use Rattle.scope_spec.specs.Decision.{ScopeRules}
use Rattle.seed_list.specs.Bad.{most_seeds, most_text}
use Rattle.job_spec.specs.Job.{IsJobOf}
use Rattle.job_spec.specs.Texts.{is_name, is_agent, is_proxy}

-- from the least to the most
abbrev pub IsFrom : ℕ → ℕ → ℕ → Type 0
IsFrom least most n = (least ≤ n) × (n ≤ most)

-- what a job's text, settings and seeds keep to
pub record IsInRange (bytes : List ℕ) (settings : Settings) (seeds : List (List ℕ)) : Type 0 where
  -- the text
  pub text : IsFrom 1 most_text (length bytes)
  -- the texts among the settings: the name is also one that a session's line can hold
  pub name : IsTrue (is_name settings.name)
  pub name_length : IsFrom 1 32 (length settings.name)
  pub name_visible : IsTrue (is_text is_visible 2200 settings.name)
  pub agent : IsTrue (is_agent settings.agent)
  pub proxy : IfSome settings.proxy (λ proxy. IsTrue (is_proxy proxy))
  -- the numbers
  pub workers : IsFrom 1 32 settings.workers
  pub delay_factor : settings.delay_factor ≤ 1000
  pub min_delay_ms : settings.min_delay_ms ≤ 3600000
  pub max_delay_ms : IsFrom settings.min_delay_ms 3600000 settings.max_delay_ms
  pub max_crawl_delay_s : settings.max_crawl_delay_s ≤ 3600
  pub max_tries : IsFrom 1 1000 settings.max_tries
  pub retry_delay_s : settings.retry_delay_s ≤ 86400
  pub timeout_ms : IsFrom 1 600000 settings.timeout_ms
  pub host_budget : settings.host_budget ≤ 2000000
  pub max_pages : settings.max_pages ≤ 1000000000000000
  pub max_bytes : settings.max_bytes ≤ 1000000000000000
  pub max_seconds : settings.max_seconds ≤ 1000000000000000
  pub max_keys : IsFrom 1 2000000 settings.max_keys
  pub max_response_bytes : IsFrom 65536 8388608 settings.max_response_bytes
  pub warc_max_bytes : IsFrom 1024 1000000000 settings.warc_max_bytes
  pub checkpoint_finishes : IsFrom 1 10000 settings.checkpoint_finishes
  -- the seeds: few enough, and no more than the keys
  pub few_seeds : length seeds ≤ most_seeds
  pub seeds_within_keys : length seeds ≤ settings.max_keys

-- every job is in range
abbrev pub JobIsInRange : Type 0
JobIsInRange =
    (bytes : List ℕ) (settings : Settings) (seeds : List (List ℕ)) (scope : ScopeRules)
    → IsJobOf bytes settings seeds scope → IsInRange bytes settings seeds
