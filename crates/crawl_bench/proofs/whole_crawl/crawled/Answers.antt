use Rattle.std.proofs.Common.{◌≤◌, sym, subst}
use Rattle.crawl_kinds.specs.declared.settings.Settings.{Settings}
use Rattle.crawl_bench.proofs.whole_crawl.crawled.Goals as goal

-- the limit is that of the job, which is in its range
pub crawl-requires-clause-limit : goal.crawl-requires-clause-limit
crawl-requires-clause-limit c =
    let job = c.in_ok-job.job in
    let text = c.in_ok-job.ensures.is in
    let range = c.job_is_in_range.ensures text.0 job.settings job.seeds job.scope text.1.is in
    subst (λ (st : Settings). st.max_response_bytes ≤ 8388608) (sym c.in_ok-own.ensures.same.0) range.max_response_bytes.1
