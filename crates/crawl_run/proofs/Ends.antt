-- What opening adds cites no record.
use Rattle.std.proofs.Common.{◌≡◌, ℕ, List, [], ◌∷◌, ◌++◌, ◌∙◌, ap}
use Rattle.crawl_kinds.specs.declared.event.Event.{Event}
use Rattle.crawl_history.specs.Citations.{cited_end}
use Rattle.crawl_history.specs.History.{history_of}
use Rattle.history_steps.proofs.Counting.{cited_end-with_event}
use Rattle.job_order.specs.declared.read.Job.{Job}
use Rattle.open_crawl.specs.Opening.{Begins, next_session}
use Rattle.core_facts.specs.CoreFacts.{Pages}

-- some pages: what seeds add hangs on none
no_pages : Pages
no_pages = record { payload = λ block. block; links = λ uri block. []; fits = λ uri block end. Rattle.std.proofs.Common.false; next_spot = λ edge c block. record { file = 0; at = 0; len = 0 } }

pub opened_end : (job : Job) (moment : ℕ) (events new : List Event) → Begins job moment events new → cited_end (history_of (events ++ new)) ≡ cited_end (history_of events)
opened_end job moment [] new begins =
    let session : Event = next_session job.settings [] moment in
    ap (λ (l : List Event). cited_end (history_of l)) (begins.is ∙ ap (λ (e : Event). session ∷ e ∷ []) (begins.adds no_pages))
opened_end job moment (e ∷ events) new begins =
    ap (λ (l : List Event). cited_end (history_of ((e ∷ events) ++ l))) begins ∙ cited_end-with_event (history_of (e ∷ events)) (next_session job.settings (e ∷ events) moment)
