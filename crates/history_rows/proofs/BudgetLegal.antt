-- Each event up to the third page of the budget is a step.
use Rattle.std.proofs.Common.{refl, lit≤, zero-le}
use Rattle.crawl_history.specs.Steps.{Legal}
use Rattle.history_rows.specs.Budget.{facts, files, three}

pub budget_legal : Legal facts files three
budget_legal =
    (record { opened = refl; later = zero-le; in_time = lit≤ tt; valid = refl; permits = (refl, refl); room = lit≤ tt }, (record { opened = refl; later = lit≤ tt; in_time = lit≤ tt; valid = refl; permits = refl; room = lit≤ tt }, (record { opened = refl; later = lit≤ tt; in_time = lit≤ tt; valid = refl; permits = (refl, refl, refl, lit≤ tt); room = lit≤ tt }, (record { opened = refl; later = lit≤ tt; in_time = lit≤ tt; valid = refl; permits = record { caller = refl; item = refl; suits = refl; adds = refl; spot = tt }; room = lit≤ tt }, (record { opened = refl; later = lit≤ tt; in_time = lit≤ tt; valid = refl; permits = (refl, refl, refl, lit≤ tt); room = lit≤ tt }, (record { opened = refl; later = lit≤ tt; in_time = lit≤ tt; valid = refl; permits = record { caller = refl; item = refl; suits = (refl, refl, refl); adds = refl; spot = refl }; room = lit≤ tt }, (record { opened = refl; later = lit≤ tt; in_time = lit≤ tt; valid = refl; permits = (refl, refl, refl, lit≤ tt); room = lit≤ tt }, (record { opened = refl; later = lit≤ tt; in_time = lit≤ tt; valid = refl; permits = record { caller = refl; item = refl; suits = (refl, refl, refl); adds = refl; spot = refl }; room = lit≤ tt }, (record { opened = refl; later = lit≤ tt; in_time = lit≤ tt; valid = refl; permits = (refl, refl, refl, lit≤ tt); room = lit≤ tt }, (record { opened = refl; later = lit≤ tt; in_time = lit≤ tt; valid = refl; permits = record { caller = refl; item = refl; suits = (refl, refl, refl); adds = refl; spot = refl }; room = lit≤ tt }, (record { opened = refl; later = lit≤ tt; in_time = lit≤ tt; valid = refl; permits = (refl, refl, refl, lit≤ tt); room = lit≤ tt }, (record { opened = refl; later = lit≤ tt; in_time = lit≤ tt; valid = refl; permits = record { caller = refl; item = refl; suits = (refl, refl, refl); adds = refl; spot = refl }; room = lit≤ tt }, tt))))))))))))
