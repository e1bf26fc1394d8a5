-- The events of a turn are those of a block that a journal takes.
use Rattle.std.proofs.Common.{ℕ, ◌+◌, ◌*◌, ◌≤◌, List, [], ◌∷◌, ◌++◌, length, sym, ap, subst, arith, length-append}
use Rattle.std.specs.List.{AllByRecursion, flat_map}
use Rattle.crawl_kinds.specs.declared.event.Event.{Event}
use Rattle.frontier_core.specs.Emitting.{emit_event}
use Rattle.frontier_core.specs.Finishing.{finish_event}
use Rattle.journal_sizes.specs.Sizes.{ValidIsShort}
use Rattle.journal_spec.specs.Journal.{spelling}
use Rattle.journal_valid.specs.Valid.{IsEvent}
use Rattle.visit_records.specs.Written.{IsTurn}

pub turn_some : (events : List Event) → IsTurn events → 1 ≤ length events
turn_some events is = omega (arith, ap length is.are)

pub turn_valid : (events : List Event) → IsTurn events → AllByRecursion IsEvent events
turn_valid events is = subst (AllByRecursion IsEvent) (sym is.are) (is.emit, (is.finish, tt))

-- two texts, one behind another
two_short : (a b : List ℕ) (m n : ℕ) → length a ≤ m → length b ≤ n → length (a ++ (b ++ [])) ≤ m + n
two_short a b m n first second = omega (arith, length-append a (b ++ []), length-append b [])

-- with 6,001 adds it has some 30 MB
pub turn_short : ValidIsShort → (events : List Event) → IsTurn events → length (flat_map spelling events) ≤ 2000000000
turn_short short events is =
    subst (λ (es : List Event). length (flat_map spelling es) ≤ 2000000000) (sym is.are)
    (let both : length (flat_map spelling (emit_event is.one ∷ finish_event is.c ∷ [])) ≤ 10000 + (10000 + 5000 * length is.c.adds) =
    two_short (spelling (emit_event is.one)) (spelling (finish_event is.c)) 10000 (10000 + 5000 * length is.c.adds)
    (omega (arith, short (emit_event is.one) is.emit)) (omega (arith, short (finish_event is.c) is.finish)) in
    omega (arith, both, is.few))
