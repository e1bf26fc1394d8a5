-- Each event of the two tries is a step.
use Rattle.std.proofs.Common.{refl, lit≤, zero-le}
use Rattle.crawl_history.specs.Steps.{Legal}
use Rattle.history_rows.specs.Tickets.{facts, files}
use Rattle.history_rows.specs.Retries.{refused_twice}

pub retries_legal : Legal facts files refused_twice
retries_legal =
    (record { opened = refl; later = zero-le; in_time = lit≤ tt; valid = refl; permits = (refl, refl); room = lit≤ tt }, (record { opened = refl; later = lit≤ tt; in_time = lit≤ tt; valid = refl; permits = refl; room = lit≤ tt }, (record { opened = refl; later = lit≤ tt; in_time = lit≤ tt; valid = refl; permits = (refl, refl, refl, lit≤ tt); room = lit≤ tt }, (record { opened = refl; later = lit≤ tt; in_time = lit≤ tt; valid = refl; permits = record { caller = refl; item = refl; suits = refl; adds = refl; spot = tt }; room = lit≤ tt }, (record { opened = refl; later = lit≤ tt; in_time = lit≤ tt; valid = refl; permits = (refl, refl, refl, lit≤ tt); room = lit≤ tt }, (record { opened = refl; later = lit≤ tt; in_time = lit≤ tt; valid = refl; permits = record { caller = refl; item = refl; suits = (refl, refl, refl); adds = refl; spot = tt }; room = lit≤ tt }, (record { opened = refl; later = lit≤ tt; in_time = lit≤ tt; valid = refl; permits = (refl, refl, refl, lit≤ tt); room = lit≤ tt }, (record { opened = refl; later = lit≤ tt; in_time = lit≤ tt; valid = refl; permits = record { caller = refl; item = refl; suits = (refl, refl, refl); adds = refl; spot = tt }; room = lit≤ tt }, tt))))))))
