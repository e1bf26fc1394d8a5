-- What is kept of keys after one event more, against the history.
use Rattle.std.proofs.Common.{◌≡◌, ℕ, ◌+◌, Bool, true, false, ◌||◌, not, List, [], ◌∷◌, ◌++◌, refl, sym, ◌∙◌, ap, Option, Some, None, add-zero, arith}
use Rattle.std.specs.Prelude.{◌&&◌, is_some, option_map, unwrap_or, IfSome, if◌then◌else◌}
use Rattle.std.specs.List.{list_any}
use Rattle.std.specs.Option.{option_or}
use Rattle.std.specs.Ordering.{int_eq}
use Rattle.std.proofs.lemmas.List.{append_assoc, append-nil}
use Rattle.std.proofs.lemmas.Slice.Eq.{bytes_eq-Decides}
use Rattle.crawl_kinds.specs.declared.event.Event.{Event}
use Rattle.crawl_kinds.specs.declared.event.End.{End}
use Rattle.crawl_kinds.specs.declared.event.Outcome.{Outcome}
use Rattle.crawl_kinds.specs.declared.event.Outcome.TheVariants.{Success, Failure, Disregard, Retry}
use Rattle.crawl_kinds.specs.declared.event.Place.{Place}
use Rattle.crawl_kinds.specs.declared.event.Place.TheVariants as place
use Rattle.crawl_kinds.specs.declared.item.Item.{Item}
use Rattle.crawl_kinds.specs.Event.{adds_of, finish_of, Finishing}
use Rattle.crawl_history.specs.Codes.{robots_needed}
use Rattle.crawl_history.specs.Counts.{vain_tries, is_vain_finish}
use Rattle.crawl_history.specs.Scans.{last_of}
use Rattle.crawl_history.specs.History.{History, with_event}
use Rattle.crawl_history.specs.Outcomes.{is_retry}
use Rattle.crawl_history.specs.Places.{place_of, place_by_finish, place_after, is_waiting, has_key}
use Rattle.crawl_history.specs.Queues.{Add, all_adds, adds_from, ordinal_count}
use Rattle.history_steps.specs.ScansStep.{one_if}
use Rattle.history_steps.proofs.Lists.{last_of-append}
use Rattle.history_steps.proofs.Placing.{all_adds-with_event, place_of-with_event}
use Rattle.history_steps.proofs.Counting.{vain_tries-with_event}
use Rattle.frontier_memo.specs.declared.known.Known.{Known}
use Rattle.frontier_memo.specs.declared.known.Known.TheVariants as known
use Rattle.frontier_memo.specs.declared.known.Waiting.{Waiting}
use Rattle.frontier_memo.specs.Fits.{place_at_add, AddsFit}
use Rattle.frontier_memo.specs.Keeping.{place_by, waits_by, waiting_by, add_at, add_of, added_by, after_adds, after_finish, tried, are_free}
use Rattle.frontier_memo.specs.Memory.{last_add, Tells, TellsWaiting}
use Rattle.frontier_memo.specs.Sums.{saturated}
use Rattle.frontier_memo.proofs.Keeping.{any-last}

-- the last add of a key, after one event more
pub last_add-with_event :
    (h : History) (e : Event) (key : List ℕ)
    → last_add (with_event h e) key ≡ option_or (last_of (add_at key) (adds_from (ordinal_count h + 1) (adds_of e))) (last_add h key)
last_add-with_event h e key =
    ap (last_of (add_at key)) (all_adds-with_event h e)
    ∙ last_of-append (add_at key) (all_adds h) (adds_from (ordinal_count h + 1) (adds_of e))

if_some-weaker : {X : Type 0} (P Q : X → Type 0) → ((x : X) → P x → Q x) → (o : Option X) → IfSome o P → IfSome o Q
if_some-weaker P Q f None p = tt
if_some-weaker P Q f (Some x) p = f x p

-- what waits was added last, and tried in vain so often once this event is counted
abbrev IsTried : History → Event → List ℕ → Waiting → Type 0
IsTried h e key w = (last_add h key ≡ Some (add_of w)) × (w.tries ≡ saturated (vain_tries h key + one_if (is_vain_finish key (finish_of e))))

-- what is kept of a key says where it is once the event's own finish is counted
pub record IsSettled (h : History) (e : Event) (key : List ℕ) (kept : Option Known) : Type 0 where
  pub place : place_by kept ≡ unwrap_or (place_by_finish key (finish_of e)) (place_of h key)
  pub waiting :
      IfSome (waiting_by kept) (λ w. (last_add h key ≡ Some (add_of w)) × (w.tries ≡ saturated (vain_tries h key + one_if (is_vain_finish key (finish_of e)))))

-- with the adds of the event, it says where the key is after the event
pub told : (h : History) (e : Event) (key : List ℕ) (kept : Option Known) → IsSettled h e key kept → Tells (with_event h e) key (after_adds (ordinal_count h) (adds_of e) key kept)
told h e key kept is =
    record {
      place = by_last (last_of (add_at key) (adds_from (ordinal_count h + 1) (adds_of e))) (list_any (has_key key) (adds_of e)) (any-last key (ordinal_count h + 1) (adds_of e)) ∙ sym (place_of-with_event h e key);
      waiting = waiting_by_last (last_of (add_at key) (adds_from (ordinal_count h + 1) (adds_of e))) (any-last key (ordinal_count h + 1) (adds_of e)) (last_add-with_event h e key);
    }
  where
    by_last :
        (o : Option Add) (b : Bool) → is_some o ≡ b
        → place_by (option_or (option_map added_by o) kept) ≡ unwrap_or (if b then Some place.Waiting else place_by_finish key (finish_of e)) (place_of h key)
    by_last None true h = cc
    by_last None false h = is.place
    by_last (Some x) true h = refl
    by_last (Some x) false h = cc

    tries : (b : Bool) → b ≡ list_any (has_key key) (adds_of e) → vain_tries (with_event h e) key ≡ (if b then 0 else vain_tries h key + one_if (is_vain_finish key (finish_of e)))
    tries b same = vain_tries-with_event h e key ∙ ap (λ b. if b then 0 else vain_tries h key + one_if (is_vain_finish key (finish_of e))) (sym same)

    waiting_by_last :
        (o : Option Add) → is_some o ≡ list_any (has_key key) (adds_of e) → last_add (with_event h e) key ≡ option_or o (last_add h key)
        → IfSome (waiting_by (option_or (option_map added_by o) kept)) (TellsWaiting (with_event h e) key)
    waiting_by_last None none same =
        if_some-weaker (IsTried h e key) (TellsWaiting (with_event h e) key)
        (λ w said. record { add = same ∙ said.0; tries = said.1 ∙ ap saturated (sym (tries false none)) }) (waiting_by kept) is.waiting
    waiting_by_last (Some x) some same = record { add = same; tries = ap saturated (sym (tries true some)) }

-- an event without a finish leaves every key where it was
pub unfinished : (h : History) (e : Event) (key : List ℕ) (kept : Option Known) → finish_of e ≡ None → Tells h key kept → IsSettled h e key kept
unfinished h e key kept none tells =
    record {
      place = tells.place ∙ ap (λ o. unwrap_or (place_by_finish key o) (place_of h key)) (sym none);
      waiting = if_some-weaker (TellsWaiting h key) (IsTried h e key)
          (λ w said. (said.add, said.tries ∙ ap saturated (sym (add-zero (vain_tries h key))) ∙ ap (λ o. saturated (vain_tries h key + one_if (is_vain_finish key o))) (sym none)))
          (waiting_by kept) tells.waiting;
    }

-- the finish of an item that waits
pub finished :
    (h : History) (item : Item) (end : End) (key : List ℕ) (kept : Option Known)
    → is_waiting (place_of h item.key) ≡ true → Tells h key kept
    → (place_by (after_finish item end key kept) ≡ unwrap_or (if has_key key item then Some (place_after end.outcome end) else None) (place_of h key))
    × IfSome (waiting_by (after_finish item end key kept)) (λ w. (last_add h key ≡ Some (add_of w)) × (w.tries ≡ saturated (vain_tries h key + one_if (has_key key item && is_retry end.outcome && not (int_eq end.code robots_needed)))))
finished h item end key kept waits tells = by_key (has_key key item) refl end.outcome
  where
    waiting : (p : Place) → is_waiting p ≡ true → p ≡ place.Waiting
    waiting place.Absent h = cc
    waiting place.Waiting h = refl
    waiting (place.Done code) h = cc

    stays : has_key key item ≡ true → place_by kept ≡ place.Waiting
    stays is = tells.place ∙ ap (place_of h) (sym ((bytes_eq-Decides item.key key).0 is)) ∙ waiting (place_of h item.key) waits

    -- so often was tried what waits, where this end is a try in vain
    IsSo : Bool → Waiting → Type 0
    IsSo vain w = (last_add h key ≡ Some (add_of w)) × (w.tries ≡ saturated (vain_tries h key + one_if vain))

    once_more : (n v : ℕ) → n ≡ saturated v → saturated (n + 1) ≡ saturated (v + 1)
    once_more n v is = omega arith

    by_code :
        (t : Bool) (w : Waiting) → TellsWaiting h key w
        → (place_by (Some (if t then known.Waits w else known.Waits (record { item = w.item; ordinal = w.ordinal; tries = saturated (w.tries + 1) }))) ≡ place.Waiting)
        × IfSome (waiting_by (Some (if t then known.Waits w else known.Waits (record { item = w.item; ordinal = w.ordinal; tries = saturated (w.tries + 1) }))))
        (λ w. (last_add h key ≡ Some (add_of w)) × (w.tries ≡ saturated (vain_tries h key + one_if (not t))))
    by_code true w said = (refl, (said.add, said.tries ∙ ap saturated (sym (add-zero (vain_tries h key)))))
    by_code false w said = (refl, (said.add, once_more w.tries (vain_tries h key) said.tries))

    by_kept :
        (o : Option Known) → place_by o ≡ place.Waiting → Tells h key o → (outcome : Outcome)
        → (place_by (option_map (λ k. if is_retry outcome then tried end k else known.Done end.code) o) ≡ unwrap_or (Some (place_after outcome end)) (place_of h key))
        × IfSome (waiting_by (option_map (λ k. if is_retry outcome then tried end k else known.Done end.code) o))
        (λ w. (last_add h key ≡ Some (add_of w)) × (w.tries ≡ saturated (vain_tries h key + one_if (is_retry outcome && not (int_eq end.code robots_needed)))))
    by_kept None is said outcome = cc
    by_kept (Some (known.Done code)) is said outcome = cc
    by_kept (Some (known.Waits w)) is said Success = (refl, tt)
    by_kept (Some (known.Waits w)) is said Failure = (refl, tt)
    by_kept (Some (known.Waits w)) is said Disregard = (refl, tt)
    by_kept (Some (known.Waits w)) is said Retry = by_code (int_eq end.code robots_needed) w said.waiting

    by_key :
        (b : Bool) → has_key key item ≡ b → (outcome : Outcome)
        → (place_by (if b then option_map (λ k. if is_retry outcome then tried end k else known.Done end.code) kept else kept)
        ≡ unwrap_or (if b then Some (place_after outcome end) else None) (place_of h key))
        × IfSome (waiting_by (if b then option_map (λ k. if is_retry outcome then tried end k else known.Done end.code) kept else kept))
        (λ w. (last_add h key ≡ Some (add_of w)) × (w.tries ≡ saturated (vain_tries h key + one_if (b && is_retry outcome && not (int_eq end.code robots_needed)))))
    by_key true is outcome = by_kept kept (stays is) tells outcome
    by_key false is outcome = (
      tells.place,
      if_some-weaker (TellsWaiting h key) (λ w. (last_add h key ≡ Some (add_of w)) × (w.tries ≡ saturated (vain_tries h key + 0)))
          (λ w said. (said.add, said.tries ∙ ap saturated (sym (add-zero (vain_tries h key))))) (waiting_by kept) tells.waiting,
    )

-- ---- which adds fit

pub waits_by-place : (o : Option Known) → is_waiting (place_by o) ≡ waits_by o
waits_by-place None = refl
waits_by-place (Some (known.Waits w)) = refl
waits_by-place (Some (known.Done code)) = refl

-- whether a key waits when an item is added
waits_at_add :
    (h : History) (e : Event) (kept : List ℕ → Option Known) → ((key : List ℕ) → IsSettled h e key (kept key))
    → (earlier : List Item) (key : List ℕ) → is_waiting (place_at_add h e earlier key) ≡ (list_any (has_key key) earlier || waits_by (kept key))
waits_at_add h e kept is earlier key = by_earlier (list_any (has_key key) earlier)
  where
    by_earlier :
        (b : Bool) → is_waiting (if b then place.Waiting else unwrap_or (place_by_finish key (finish_of e)) (place_of h key)) ≡ (b || waits_by (kept key))
    by_earlier true = refl
    by_earlier false = ap is_waiting (sym (is key).place) ∙ waits_by-place (kept key)

-- no key waits when its turn comes
abbrev AreFree : (List ℕ → Bool) → List Item → List Item → Type 0
AreFree waits earlier items =
    (front back : List Item) (item : Item) → items ≡ front ++ item ∷ back
    → (list_any (has_key item.key) (earlier ++ front) || waits item.key) ≡ false

and_parts : (w b : Bool) → (not w && b) ≡ true → (w ≡ false) × (b ≡ true)
and_parts true b h = cc
and_parts false b h = (refl, h)

pub all_free : (waits : List ℕ → Bool) (earlier items : List Item) → are_free waits earlier items ≡ true → AreFree waits earlier items
all_free waits earlier [] h [] back item e = cc
all_free waits earlier [] h (y ∷ front) back item e = cc
all_free waits earlier (x ∷ items) h [] back item e =
    let same : x ≡ item = cc in
    ap (λ y. list_any (has_key y.key) (earlier ++ []) || waits y.key) (sym same)
    ∙ ap (λ ys. list_any (has_key x.key) ys || waits x.key) (append-nil earlier)
    ∙ (and_parts _ _ h).0
all_free waits earlier (x ∷ items) h (y ∷ front) back item e =
    let same : x ≡ y = cc in
    let rest : items ≡ front ++ item ∷ back = cc in
    ap (λ ys. list_any (has_key item.key) ys || waits item.key) (ap (λ z. earlier ++ z ∷ front) (sym same) ∙ sym (append_assoc earlier (x ∷ []) front))
    ∙ all_free waits (earlier ++ x ∷ []) items (and_parts _ _ h).1 front back item rest

not_all_free : (waits : List ℕ → Bool) (earlier items : List Item) → are_free waits earlier items ≡ false → ¬ AreFree waits earlier items
not_all_free waits earlier [] h free = cc
not_all_free waits earlier (x ∷ items) h free =
    let here : (list_any (has_key x.key) earlier || waits x.key) ≡ false =
    ap (λ ys. list_any (has_key x.key) ys || waits x.key) (sym (append-nil earlier)) ∙ free [] items x refl in
    not_all_free waits (earlier ++ x ∷ []) items
    (ap (λ w. not w && are_free waits (earlier ++ x ∷ []) items) (sym here) ∙ h)
    (λ front back item e.
    ap (λ ys. list_any (has_key item.key) ys || waits item.key) (append_assoc earlier (x ∷ []) front)
    ∙ free (x ∷ front) back item (ap (λ ys. x ∷ ys) e))

module _ (h : History) (e : Event) (kept : List ℕ → Option Known) (is : (key : List ℕ) → IsSettled h e key (kept key)) where
  pub adds_fit : are_free (λ key. waits_by (kept key)) [] (adds_of e) ≡ true → AddsFit h e
  adds_fit free earlier later item split =
      waits_at_add h e kept is earlier item.key ∙ all_free (λ key. waits_by (kept key)) [] (adds_of e) free earlier later item split

  pub adds_unfit : are_free (λ key. waits_by (kept key)) [] (adds_of e) ≡ false → ¬ AddsFit h e
  adds_unfit free fit =
      not_all_free (λ key. waits_by (kept key)) [] (adds_of e) free (λ front back item split. sym (waits_at_add h e kept is front item.key) ∙ fit front back item split)

-- items of which no key waits and each has its own may be added
pub new_adds_fit :
    (h : History) (e : Event) → IfSome (finish_of e) (λ c. is_waiting (place_of h c.item.key) ≡ true)
    → are_free (λ key. is_waiting (place_of h key)) [] (adds_of e) ≡ true → AddsFit h e
new_adds_fit h e waits free earlier later item split =
    by_earlier (list_any (has_key item.key) earlier) (is_waiting (place_of h item.key)) refl (all_free (λ key. is_waiting (place_of h key)) [] (adds_of e) free earlier later item split)
  where
    by_finish : (o : Option Finishing) → IfSome o (λ c. is_waiting (place_of h c.item.key) ≡ true) → is_waiting (place_of h item.key) ≡ false → is_waiting (unwrap_or (place_by_finish item.key o) (place_of h item.key)) ≡ false
    by_finish None w none = none
    by_finish (Some c) w none = by_key (has_key item.key c.item) refl
      where
        by_key : (b : Bool) → has_key item.key c.item ≡ b → is_waiting (unwrap_or (if b then Some (place_after c.end.outcome c.end) else None) (place_of h item.key)) ≡ false
        by_key false is = none
        by_key true is = let clash : true ≡ false = sym w ∙ ap (λ k. is_waiting (place_of h k)) ((bytes_eq-Decides c.item.key item.key).0 is) ∙ none in cc

    by_earlier :
        (a b : Bool) → is_waiting (place_of h item.key) ≡ b → (a || b) ≡ false
        → is_waiting (if a then place.Waiting else unwrap_or (place_by_finish item.key (finish_of e)) (place_of h item.key)) ≡ false
    by_earlier true b is none = cc
    by_earlier false b is none = by_finish (finish_of e) waits (is ∙ none)
