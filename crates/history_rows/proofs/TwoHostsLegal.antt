-- Each event of the two hosts is a step.
use Rattle.std.proofs.Common.{refl, lit≤, zero-le}
use Rattle.crawl_history.specs.Steps.{Legal}
use Rattle.history_rows.specs.TwoHosts.{facts, files, known_a}

pub hosts_legal : Legal facts files known_a
hosts_legal =
    (record { opened = refl; later = zero-le; in_time = lit≤ tt; valid = refl; permits = (refl, refl); room = lit≤ tt }, (record { opened = refl; later = lit≤ tt; in_time = lit≤ tt; valid = refl; permits = refl; room = lit≤ tt }, (record { opened = refl; later = lit≤ tt; in_time = lit≤ tt; valid = refl; permits = (refl, refl, refl, lit≤ tt); room = lit≤ tt }, (record { opened = refl; later = lit≤ tt; in_time = lit≤ tt; valid = refl; permits = record { caller = refl; item = refl; suits = refl; adds = refl; spot = tt }; room = lit≤ tt }, (record { opened = refl; later = lit≤ tt; in_time = lit≤ tt; valid = refl; permits = (refl, refl, refl, lit≤ tt); room = lit≤ tt }, (record { opened = refl; later = lit≤ tt; in_time = lit≤ tt; valid = refl; permits = record { caller = refl; item = refl; suits = refl; adds = refl; spot = tt }; room = lit≤ tt }, (record { opened = refl; later = lit≤ tt; in_time = lit≤ tt; valid = refl; permits = (refl, refl, refl, lit≤ tt); room = lit≤ tt }, (record { opened = refl; later = lit≤ tt; in_time = lit≤ tt; valid = refl; permits = record { caller = refl; item = refl; suits = (refl, refl, refl); adds = refl; spot = refl }; room = lit≤ tt }, tt))))))))
