-- The events of lists of blocks.
use Rattle.std.proofs.Common.{◌≡◌, ℕ, ◌+◌, ◌≤◌, List, [], ◌∷◌, ◌++◌, length, refl, sym, ◌∙◌, ap, subst, arith, append_assoc, append-nil, length-append}
use Rattle.std.proofs.lemmas.List.{length-replicate}
use Rattle.std.specs.Prelude.{replicate, codes}
use Rattle.std.specs.Fmt.{decimal}
use Rattle.std.specs.List.{AllByRecursion, flat_map, join_with_byte}
use Rattle.crawl_kinds.specs.declared.event.Event.{Event}
use Rattle.crawl_kinds.specs.declared.event.Event.TheVariants.{Session, Seeds, Emit, Finish}
use Rattle.gate_log.specs.Blocks.{IsBody}
use Rattle.gate_log.specs.Reading.{bodies_of, placed}
use Rattle.gate_log.specs.declared.block.Block.{Block}
use Rattle.journal_spec.specs.Fields.{item_fields, ticket_fields, verdict_field, outcome_tag, end_fields}
use Rattle.journal_spec.specs.Journal.{line, line_feed, space, seeds_line, seed_line, add_line, finish_line, spelling}
use Rattle.journal_valid.specs.Valid.{IsEvent, IsSpelled}
use Rattle.recover_journal.specs.Holds.{AreEvents}

pub all-append : {X : Type 0} (P : X → Type 0) (xs ys : List X) → AllByRecursion P xs → AllByRecursion P ys → AllByRecursion P (xs ++ ys)
all-append P [] ys all more = more
all-append P (x ∷ xs) ys all more = (all.0, all-append P xs ys all.1 more)

-- one block more
pub events-push : (blocks : List Block) (block : Block) (events own : List Event) (gates : List ℕ) → AreEvents blocks events gates → IsSpelled own block.body
    → AreEvents (blocks ++ block ∷ []) (events ++ own) (gates ++ replicate (length own) block.gate)
events-push [] block events own gates are lines = record {
  own = own;
  rest = [];
  more = [];
  lines = lines;
  events_are = ap (λ (l : List Event). l ++ own) are.0 ∙ sym (append-nil own);
  gates_are = ap (λ (l : List ℕ). l ++ replicate (length own) block.gate) are.1 ∙ sym (append-nil (replicate (length own) block.gate));
  behind = (refl, refl);
}
events-push (first ∷ blocks) block events own gates are lines = record {
  own = are.own;
  rest = are.rest ++ own;
  more = are.more ++ replicate (length own) block.gate;
  lines = are.lines;
  events_are = ap (λ (l : List Event). l ++ own) are.events_are ∙ append_assoc are.own are.rest own;
  gates_are = ap (λ (l : List ℕ). l ++ replicate (length own) block.gate) are.gates_are ∙ append_assoc (replicate (length are.own) first.gate) are.more (replicate (length own) block.gate);
  behind = events-push blocks block are.rest own are.more are.behind lines;
}

-- events of blocks are valid
pub events_valid : (blocks : List Block) (events : List Event) (gates : List ℕ) → AreEvents blocks events gates → AllByRecursion IsEvent events
events_valid [] events gates are = subst (AllByRecursion IsEvent) (sym are.0) (record {})
events_valid (block ∷ blocks) events gates are =
    subst (AllByRecursion IsEvent) (sym are.events_are) (all-append IsEvent are.own are.rest are.lines.valid (events_valid blocks are.rest are.more are.behind))

-- and each has a gate
pub events_gated : (blocks : List Block) (events : List Event) (gates : List ℕ) → AreEvents blocks events gates → length gates ≡ length events
events_gated [] events gates are = ap length are.1 ∙ sym (ap length are.0)
events_gated (block ∷ blocks) events gates are =
    ap length are.gates_are ∙ length-append (replicate (length are.own) block.gate) are.more ∙ ap (λ (n : ℕ). n + length are.more) (length-replicate (length are.own) block.gate)
    ∙ ap (λ (n : ℕ). length are.own + n) (events_gated blocks are.rest are.more are.behind) ∙ sym (length-append are.own are.rest) ∙ sym (ap length are.events_are)

-- a body among others
pub body_among : (before : List Block) (block : Block) (behind : List Block) → AllByRecursion IsBody (bodies_of (before ++ block ∷ behind)) → IsBody block.body
body_among [] block behind all = all.0
body_among (first ∷ before) block behind all = body_among before block behind all.1

-- blocks that were placed have their bodies
pub bodies_of-placed : (at : ℕ) (bodies : List (List ℕ)) → bodies_of (placed at bodies) ≡ bodies
bodies_of-placed at [] = refl
bodies_of-placed at (body ∷ bodies) = ap (λ (l : List (List ℕ)). body ∷ l) (bodies_of-placed (at + 10 + length body) bodies)

-- a body more stands behind the others
pub placed-push : (at : ℕ) (bodies : List (List ℕ)) (body : List ℕ) → (gate : ℕ) × (placed at (bodies ++ body ∷ []) ≡ placed at bodies ++ (let b : Block = record { gate = gate; body = body } in b) ∷ [])
placed-push at [] body = (at, refl)
placed-push at (first ∷ bodies) body =
    let rest = placed-push (at + 10 + length first) bodies body in
    let b : Block = record { gate = at; body = first } in
    (rest.0, ap (λ (l : List Block). b ∷ l) rest.1)

length-line : (fields : List (List ℕ)) → 1 ≤ length (line fields)
length-line fields = omega (arith, length-append (join_with_byte space fields) (line_feed ∷ []))

-- an event has a line
pub spelling_some : (event : Event) → 1 ≤ length (spelling event)
spelling_some (Session time job format) = length-line (codes "S+" ∷ decimal time ∷ job ∷ decimal format ∷ [])
spelling_some (Seeds time list adds) =
    omega (
      arith,
      length-line (codes "S*" ∷ decimal time ∷ []),
      length-append (seeds_line time) (flat_map seed_line list),
      length-append (seeds_line time ++ flat_map seed_line list) (flat_map add_line adds),
    )
spelling_some (Emit time caller ticket verdict item) =
    length-line (codes "Fe" ∷ (item_fields item ++ ticket_fields time caller ticket ++ verdict_field verdict ∷ []))
spelling_some (Finish time caller ticket item end adds) =
    omega (
      arith,
      length-line (outcome_tag end.outcome ∷ (item_fields item ++ ticket_fields time caller ticket ++ end_fields end)),
      length-append (finish_line time caller ticket item end) (flat_map add_line adds),
    )

-- and so do one or more
pub lines_some : (events : List Event) → 1 ≤ length events → 1 ≤ length (flat_map spelling events)
lines_some [] some = absurd (omega (arith, some))
lines_some (event ∷ events) some = omega (arith, spelling_some event, length-append (spelling event) (flat_map spelling events))
