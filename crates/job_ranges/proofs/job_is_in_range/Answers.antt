use Rattle.job_ranges.proofs.Ranges.{job_in_range}
use Rattle.job_ranges.proofs.job_is_in_range.Goals as goal

pub returns : goal.returns
returns c = job_in_range
