-- A job is in range.
use Rattle.std.proofs.Common.{ℕ, ◌≤◌, List, length, arith}
use Rattle.std.specs.Prelude.{count_by}
use Rattle.crawl_kinds.specs.declared.settings.Settings.{Settings}
use Rattle.scope_spec.specs.Decision.{ScopeRules}
use Rattle.toml.specs.Data.{Members}
use Rattle.seed_list.specs.Lines.{is_seed_line, lines}
use Rattle.seed_list.specs.Seeds.{seeds_of}
use Rattle.job_spec.specs.declared.setting.Number.TheVariants.{MaxKeys}
use Rattle.job_spec.specs.Gives.{seeds_text, settings_in}
use Rattle.job_spec.specs.Job.{IsJobOf, IsTextOf, IsWithinRanges}
use Rattle.job_spec.specs.Numbers.{number_in}
use Rattle.job_spec.specs.OutOfRange.{seed_limit}
use Rattle.job_ranges.specs.Laws.{IsInRange}
use Rattle.job_ranges.proofs.Empty.{not_empty}
use Rattle.job_ranges.proofs.Missing.{present, taken}
use Rattle.job_ranges.proofs.Names.{name_length, name_visible}
use Rattle.job_ranges.proofs.Numbers.{numbers}
use Rattle.job_ranges.proofs.Seeds.{seeds_of_lines}
use Rattle.job_ranges.proofs.Texts.{agent_taken, name_taken, proxy_taken, seeds_taken}

few_seeds : (m : Members) → count_by is_seed_line (lines (seeds_text m)) ≤ seed_limit m → (length (seeds_of (seeds_text m)) ≤ 200000) × (length (seeds_of (seeds_text m)) ≤ number_in m MaxKeys)
unfolding seed_limit
few_seeds m few = let all = seeds_of_lines (lines (seeds_text m)) in (omega arith, omega arith)

table_in_range : (bytes : List ℕ) (m : Members) → IsTextOf bytes m → IsWithinRanges m → IsInRange bytes (settings_in m) (seeds_of (seeds_text m))
unfolding settings_in
table_in_range bytes m of within =
    let there = present m within.0.1 in
    let good = taken m within.1 in
    let name = name_taken m there.name good.name in
    let number = numbers m in
    let seeds = few_seeds m (seeds_taken m there.seeds good.seeds) in
    record {
      text = (not_empty bytes m of.reads within.0.1, of.short);
      name = name;
      name_length = name_length _ name;
      name_visible = name_visible _ name;
      agent = agent_taken m there.agent good.agent;
      proxy = proxy_taken m good.proxy;
      workers = number.workers;
      delay_factor = number.delay_factor.1;
      min_delay_ms = number.min_delay.1;
      max_delay_ms = number.max_delay;
      max_crawl_delay_s = number.max_crawl_delay.1;
      max_tries = number.max_tries;
      retry_delay_s = number.retry_delay.1;
      timeout_ms = number.timeout;
      host_budget = number.host_budget.1;
      max_pages = number.max_pages.1;
      max_bytes = number.max_bytes.1;
      max_seconds = number.max_seconds.1;
      max_keys = number.max_keys;
      max_response_bytes = number.max_response_bytes;
      warc_max_bytes = number.warc_max_bytes;
      checkpoint_finishes = number.checkpoint_finishes;
      few_seeds = seeds.0;
      seeds_within_keys = seeds.1;
    }

pub job_in_range : (bytes : List ℕ) (settings : Settings) (seeds : List (List ℕ)) (scope : ScopeRules) → IsJobOf bytes settings seeds scope → IsInRange bytes settings seeds
job_in_range bytes settings seeds scope job =
    rw (job.is.same_settings, job.is.same_seeds) (table_in_range bytes job.table job.of job.is.good.0)
