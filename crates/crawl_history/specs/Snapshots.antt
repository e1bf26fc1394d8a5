-- What a checkpoint keeps of a history.
--     tickets_out h      the tickets that are out, in the order of their emits
--     snapshot_of h      the snapshot
use Rattle.std.specs.Prelude.{ℕ, ◌+◌, not, ◌==◌, nat_lt, List, [], ◌∷◌, ◌++◌, map, filter, filter_map, fold, length, Option, Some, None, bytes_eq, if◌then◌else◌}
use Rattle.std.specs.Ordering.{nat_cmp}
use Rattle.std.specs.Cmp.Lexicographic.{slice_cmp}
use Rattle.crawl_kinds.specs.declared.event.Place.{Place}
use Rattle.crawl_kinds.specs.declared.event.Place.TheVariants.{Absent, Waiting, Done}
use Rattle.crawl_kinds.specs.declared.event.Event.{Event}
use Rattle.crawl_kinds.specs.declared.event.Event.TheVariants.{Session, Seeds, Emit, Finish}
use Rattle.crawl_kinds.specs.declared.snapshot.Snapshot.{Snapshot}
use Rattle.crawl_kinds.specs.declared.snapshot.KeyDone.{KeyDone}
use Rattle.crawl_kinds.specs.declared.snapshot.TicketOut.{TicketOut}
use Rattle.crawl_history.specs.Scans.{distinct}
use Rattle.crawl_history.specs.History.{History, finishes, ticket_count, last_time, first_time}
use Rattle.crawl_history.specs.Places.{place_of, known_keys}
use Rattle.crawl_history.specs.Queues.{waiting_adds, ordinal_count}
use Rattle.crawl_history.specs.Counts.{vain_tries, budget_spent, pages, bytes_in}
use Rattle.crawl_history.specs.Emission.{is_less}
use Rattle.crawl_history.specs.Citations.{cited_end}

-- the text put before the first one that is not less
abbrev pub put_text : List ℕ → List (List ℕ) → List (List ℕ)
put_text x [] = x ∷ []
put_text x (y ∷ ys) = if is_less (slice_cmp nat_cmp y x) then y ∷ put_text x ys else x ∷ y ∷ ys

-- the texts in byte order
abbrev pub in_byte_order : List (List ℕ) → List (List ℕ)
in_byte_order [] = []
in_byte_order (x ∷ xs) = put_text x (in_byte_order xs)

-- what is out after an event: an emit puts its ticket out, its finish takes it back, a session forgets all
abbrev pub out_after : List TicketOut → Event → List TicketOut
out_after out (Session time job format) = []
out_after out (Seeds time list adds) = out
out_after out (Emit time caller ticket verdict item) =
    out ++ record { ticket = ticket; caller = caller; time = time; verdict = verdict; key = item.key } ∷ []
out_after out (Finish time caller ticket item end adds) = filter (λ o. not (o.ticket == ticket)) out

-- the tickets that are out
abbrev pub tickets_out : History → List TicketOut
tickets_out h = fold out_after h.base.tickets_out h.events

-- the key with its code, where it is done
abbrev pub done_at : List ℕ → Place → Option KeyDone
done_at key Absent = None
done_at key Waiting = None
done_at key (Done code) = Some (record { key = key; code = code })

-- the classes that have spent something, each once
abbrev pub spending_classes : History → List (List ℕ)
spending_classes h =
    filter (λ class. nat_lt 0 (budget_spent h class))
    (distinct bytes_eq (map (λ s. s.class) h.base.spent ++ map (λ c. c.item.class) (finishes h)))

-- the snapshot: keys that are done and classes in byte order, those that wait by ordinal, tickets by number
abbrev pub snapshot_of : History → Snapshot
snapshot_of h =
    record {
      events = h.base.events + length h.events;
      time = last_time h;
      tickets = ticket_count h;
      ordinals = ordinal_count h;
      end = cited_end h;
      pages = pages h;
      bytes = bytes_in h;
      first = first_time h;
      finished = filter_map (λ key. done_at key (place_of h key)) (in_byte_order (known_keys h));
      waiting = map (λ a. record { ordinal = a.ordinal; item = a.item; tries = vain_tries h a.item.key }) (waiting_adds h);
      spent = map (λ class. record { class = class; spent = budget_spent h class }) (in_byte_order (spending_classes h));
      tickets_out = tickets_out h;
    }
