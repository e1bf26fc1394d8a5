-- What no event names stays as it was.
use Rattle.std.proofs.Common.{◌≡◌, ℕ, ◌+◌, Bool, true, false, ◌&&◌, ◌||◌, cond, List, [], ◌∷◌, ◌++◌, map, refl, sym, ◌∙◌, ap, Option, Some, None, ◌==◌}
use Rattle.std.specs.Prelude.{filter, unwrap_or, is_none, if◌then◌else◌}
use Rattle.std.specs.List.{list_any, list_all}
use Rattle.std.proofs.lemmas.List.{append-nil, append_assoc}
use Rattle.crawl_kinds.specs.declared.event.Event.{Event}
use Rattle.crawl_kinds.specs.declared.event.Place.{Place}
use Rattle.crawl_kinds.specs.declared.event.Place.TheVariants.{Waiting}
use Rattle.crawl_kinds.specs.declared.item.Item.{Item}
use Rattle.crawl_kinds.specs.Event.{adds_of, finish_of, Finishing}
use Rattle.crawl_history.specs.Emission.{is_empty}
use Rattle.crawl_history.specs.History.{History, with_event, with_events}
use Rattle.crawl_history.specs.Places.{place_of, place_by, place_by_finish, place_after, has_key, adds_key, is_finish_of, names_key, is_waiting}
use Rattle.crawl_history.specs.Queues.{Add, all_adds, adds_from, ordinal_count, ordinal_at, ordinal_of, is_waiting_add, waiting_adds, in_class, in_rank_order, queue}
use Rattle.crawl_history.specs.Scans.{last_of}
use Rattle.history_steps.proofs.Placing.{place_of-with_event, all_adds-with_event, ordinal_of-with_event}
use Rattle.history_laws.specs.Laws.{names_nothing}

left_false : (b c : Bool) → (b || c) ≡ false → b ≡ false
left_false true c e = cc e
left_false false c e = refl

right_false : (b c : Bool) → (b || c) ≡ false → c ≡ false
right_false true c e = cc e
right_false false c e = e

left_true : (b c : Bool) → (b && c) ≡ true → b ≡ true
left_true true c e = refl
left_true false c e = cc e

right_true : (b c : Bool) → (b && c) ≡ true → c ≡ true
right_true true c e = e
right_true false c e = cc e

-- ---- places

place_by-unnamed : (key : List ℕ) (e : Event) (p : Place) → names_key key e ≡ false → unwrap_or (place_by key e) p ≡ p
place_by-unnamed key e p unnamed = by_add (adds_key key e) (finish_of e) unnamed
  where
    by_key : (b : Bool) (c : Finishing) → b ≡ false → unwrap_or (if b then Some (place_after c.end.outcome c.end) else None) p ≡ p
    by_key true c e = cc e
    by_key false c e = refl

    by_add : (b : Bool) (o : Option Finishing) → (b || is_finish_of key o) ≡ false → unwrap_or (if b then Some Waiting else place_by_finish key o) p ≡ p
    by_add true o e = cc e
    by_add false None e = refl
    by_add false (Some c) e = by_key (has_key key c.item) c e

pub place_of-unnamed : (h : History) (more : List Event) (key : List ℕ) → list_any (names_key key) more ≡ false → place_of (with_events h more) key ≡ place_of h key
place_of-unnamed h [] key unnamed = ap (λ xs. place_of (record { base = h.base; events = xs }) key) (append-nil h.events)
place_of-unnamed h (e ∷ more) key unnamed =
    ap (λ xs. place_of (record { base = h.base; events = xs }) key) (sym (append_assoc h.events (e ∷ []) more))
    ∙ place_of-unnamed (with_event h e) more key (right_false (names_key key e) _ unnamed)
    ∙ place_of-with_event h e key
    ∙ place_by-unnamed key e (place_of h key) (left_false (names_key key e) _ unnamed)

-- ---- queues

module _ (h : History) (e : Event) (adds : adds_of e ≡ []) (ends : finish_of e ≡ None) where
  same_place : (key : List ℕ) → place_of (with_event h e) key ≡ place_of h key
  same_place key =
      place_of-with_event h e key
      ∙ ap (λ xs. unwrap_or (if list_any (has_key key) xs then Some Waiting else place_by_finish key (finish_of e)) (place_of h key)) adds
      ∙ ap (λ o. unwrap_or (place_by_finish key o) (place_of h key)) ends

  same_ordinal : (key : List ℕ) → ordinal_of (with_event h e) key ≡ ordinal_of h key
  same_ordinal key = ordinal_of-with_event h e key ∙ ap (λ xs. unwrap_or (last_of (ordinal_at key) (adds_from (ordinal_count h + 1) xs)) (ordinal_of h key)) adds

  same_adds : all_adds (with_event h e) ≡ all_adds h
  same_adds = all_adds-with_event h e ∙ ap (λ xs. all_adds h ++ adds_from (ordinal_count h + 1) xs) adds ∙ append-nil (all_adds h)

  same_waiting : (xs : List Add) → filter (is_waiting_add (with_event h e)) xs ≡ filter (is_waiting_add h) xs
  same_waiting [] = refl
  same_waiting (a ∷ xs) =
      ap (λ ys. cond (is_waiting_add (with_event h e) a) (a ∷ ys) ys) (same_waiting xs)
      ∙ ap (λ p. cond (is_waiting p && a.ordinal == ordinal_of (with_event h e) a.item.key) (a ∷ filter (is_waiting_add h) xs) (filter (is_waiting_add h) xs)) (same_place a.item.key)
      ∙ ap (λ o. cond (is_waiting (place_of h a.item.key) && a.ordinal == o) (a ∷ filter (is_waiting_add h) xs) (filter (is_waiting_add h) xs)) (same_ordinal a.item.key)

  pub waiting_adds-quiet : waiting_adds (with_event h e) ≡ waiting_adds h
  waiting_adds-quiet = same_waiting (all_adds (with_event h e)) ∙ ap (filter (is_waiting_add h)) same_adds

queue-quiet : (h : History) (e : Event) (class : List ℕ) → names_nothing e ≡ true → queue (with_event h e) class ≡ queue h class
queue-quiet h e class nothing =
    ap (λ xs. in_rank_order (filter (in_class class) (map (λ a. a.item) xs)))
    (waiting_adds-quiet h e (nil (adds_of e) (left_true _ _ nothing)) (none (finish_of e) (right_true (is_empty (adds_of e)) _ nothing)))
  where
    nil : (xs : List Item) → is_empty xs ≡ true → xs ≡ []
    nil [] is = refl
    nil (x ∷ xs) is = cc is

    none : (o : Option Finishing) → is_none o ≡ true → o ≡ None
    none None is = refl
    none (Some c) is = cc is

pub queue-unnamed : (h : History) (more : List Event) (class : List ℕ) → list_all names_nothing more ≡ true → queue (with_events h more) class ≡ queue h class
queue-unnamed h [] class nothing = ap (λ xs. queue (record { base = h.base; events = xs }) class) (append-nil h.events)
queue-unnamed h (e ∷ more) class nothing =
    ap (λ xs. queue (record { base = h.base; events = xs }) class) (sym (append_assoc h.events (e ∷ []) more))
    ∙ queue-unnamed (with_event h e) more class (right_true (names_nothing e) _ nothing)
    ∙ queue-quiet h e class (left_true (names_nothing e) _ nothing)
