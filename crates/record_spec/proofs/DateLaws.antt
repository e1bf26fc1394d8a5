-- A moment has one date.
use Rattle.std.proofs.Common.{◌≡◌, ℕ, List, sym, ◌∙◌}
use Rattle.jiff_core.specs.declared.civil.datetime.DateTime.{DateTime}
use Rattle.jiff_core.specs.DateTime.{civil_nanos}
use Rattle.jiff_core.proofs.DateLemmas.{epoch_day_injective}
use Rattle.jiff_core.proofs.DateTimeLemmas.{civil_nanos_injective, time_nanos_injective}
use Rattle.record_spec.specs.Date.{IsDateOf, utc_text}

-- the same instant is written the same
same_text : (a b : DateTime) → civil_nanos a ≡ civil_nanos b → utc_text a ≡ utc_text b
same_text a b e =
    let parts = civil_nanos_injective a b e in
    let date = epoch_day_injective a.date b.date parts.0 in
    let time = time_nanos_injective a.time b.time parts.1 in
    rw (date.0, date.1, date.2, time.0, time.1, time.2, time.3)

pub one_date : (moment : ℕ) (one other : List ℕ) → IsDateOf moment one → IsDateOf moment other → one ≡ other
one_date moment one other a b =
    a.written ∙ same_text a.utc b.utc (a.passed ∙ sym b.passed) ∙ sym b.written
