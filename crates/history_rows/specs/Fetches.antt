-- Ends of a fetch.
use Rattle.std.specs.Prelude.{ℕ, Some, None, codes, pos}
use Rattle.crawl_kinds.specs.declared.event.End.{End}
use Rattle.crawl_kinds.specs.declared.event.Outcome.TheVariants.{Success, Failure, Retry}
use Rattle.crawl_history.specs.Codes.{no_cause, refused, too_many_tries}
use Rattle.history_rows.specs.Pages.{spot}

-- a success that began at this moment and took so long, with a status, a size and the place of its block
abbrev pub success : ℕ → ℕ → ℕ → ℕ → ℕ → End
success status time took size place =
    record {
      outcome = Success;
      code = pos status;
      fetch = Some (record { start = time; duration = took });
      body = Some (record { size = size; media = codes "no-type"; digest = codes "sha1:"; spot = spot place });
      notes = record { cut = None; tries = 1; cause = no_cause };
    }

-- a connection that is refused, at this try
abbrev pub refusal : ℕ → ℕ → End
refusal time number =
    record {
      outcome = Retry;
      code = refused;
      fetch = Some (record { start = time; duration = 0 });
      body = None;
      notes = record { cut = None; tries = number; cause = no_cause };
    }

-- one that is refused at the last try
abbrev pub gave_up : ℕ → ℕ → End
gave_up time number =
    record {
      outcome = Failure;
      code = too_many_tries;
      fetch = Some (record { start = time; duration = 0 });
      body = None;
      notes = record { cut = None; tries = number; cause = refused };
    }
