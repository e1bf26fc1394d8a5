use Rattle.history_steps.proofs.Placing.{place_of-with_event, all_adds-with_event, ordinal_count-with_event, ordinal_of-with_event}
use Rattle.history_steps.proofs.Sessions.{last_time-with_event, session_time-with_event, ticket_count-with_event, session_emits-with_event, session_finishes-with_event, emits_out-with_event}
use Rattle.history_steps.proofs.Counting.{vain_tries-with_event, budget_spent-with_event, pages-with_event, bytes_in-with_event, cited_end-with_event}
use Rattle.history_steps.proofs.scans_step.Goals as goal

pub returns : goal.returns
returns c =
    record {
      place = place_of-with_event;
      adds = all_adds-with_event;
      ordinals = ordinal_count-with_event;
      ordinal = ordinal_of-with_event;
      time = last_time-with_event;
      session = session_time-with_event;
      tickets = ticket_count-with_event;
      emits = session_emits-with_event;
      ends = session_finishes-with_event;
      out = emits_out-with_event;
      tries = vain_tries-with_event;
      spent = budget_spent-with_event;
      pages_more = pages-with_event;
      bytes_more = bytes_in-with_event;
      cited = cited_end-with_event;
    }
