-- No end that valid events cite is one that 64 bits can't hold.
use Rattle.std.proofs.Common.{◌≡◌, ℕ, ◌-◌, ◌^◌, ◌≤◌, min, List, [], ◌∷◌, filter_map, option_map, Option, Some, None, IfSome, refl, ap, arith}
use Rattle.std.specs.List.{AllByRecursion}
use Rattle.std.specs.Option.{option_or}
use Rattle.crawl_kinds.specs.declared.event.Body.{Body}
use Rattle.crawl_kinds.specs.declared.event.Event.{Event}
use Rattle.crawl_kinds.specs.declared.event.Event.TheVariants.{Session, Seeds, Emit, Finish}
use Rattle.crawl_kinds.specs.declared.snapshot.Edge.{Edge}
use Rattle.crawl_kinds.specs.Event.{finish_of}
use Rattle.crawl_history.specs.Citations.{cited_end, edge_after, edge_of, edge_or}
use Rattle.crawl_history.specs.History.{history_of}
use Rattle.crawl_history.specs.Scans.{last_of}
use Rattle.frontier_memo.specs.Sums.{saturated_edge}
use Rattle.journal_valid.specs.Ends.{IsBody}
use Rattle.journal_valid.specs.Valid.{IsEvent}

-- an end that is no greater than a line can say of a record
abbrev IsSmall : Option Edge → Type 0
IsSmall None = Unit {0}
IsSmall (Some edge) = edge.end ≤ 8589934590

-- of two such ends the first that is there is one
small_or : (x y : Option Edge) → IsSmall x → IsSmall y → IsSmall (option_or x y)
small_or None y small other = other
small_or (Some edge) y small other = small

-- the end of a body that a line can name is one
small_after : (body : Option Body) → IfSome body IsBody → IsSmall (edge_after body)
small_after None valid = tt
small_after (Some body) valid = omega (arith, valid.at, valid.len)

-- the last end that valid events cite
small_last : (events : List Event) → AllByRecursion IsEvent events → IsSmall (last_of edge_of (filter_map finish_of events))
small_last [] valid = tt
small_last (Session time job format ∷ events) valid = small_last events valid.1
small_last (Seeds time list adds ∷ events) valid = small_last events valid.1
small_last (Emit time caller ticket verdict item ∷ events) valid = small_last events valid.1
small_last (Finish time caller ticket item end adds ∷ events) valid =
    small_or (last_of edge_of (filter_map finish_of events)) (edge_after end.body) (small_last events valid.1) (small_after end.body valid.0.2.body)

-- which 64 bits can hold
small_same : (o : Option Edge) → IsSmall o → option_map saturated_edge (edge_or o None) ≡ edge_or o None
small_same None small = refl
small_same (Some edge) small =
    let same : min edge.end (2 ^ 64 - 1) ≡ edge.end = omega (arith, small) in
    ap (λ (n : ℕ). Some (record { file = edge.file; end = n })) same

-- so the end that is kept is the one that they cite
pub cited_fits : (events : List Event) → AllByRecursion IsEvent events → option_map saturated_edge (cited_end (history_of events)) ≡ cited_end (history_of events)
cited_fits events valid = small_same (last_of edge_of (filter_map finish_of events)) (small_last events valid)
