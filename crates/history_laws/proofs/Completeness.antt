-- Every legal history is complete.
--     Known f es      what holds of the events so far: a key that is somewhere was added, and so was each item that is out
use Rattle.std.proofs.Common.{◌≡◌, ℕ, Bool, true, false, ◌&&◌, ◌||◌, not, cond, List, [], ◌∷◌, ◌++◌, refl, sym, ◌∙◌, ap, subst, Option, Some, None, map, zero-le}
use Rattle.std.specs.Prelude.{bytes_eq, option_map, filter, unwrap_or, option_to_list, if◌then◌else◌, ◌==◌, find}
use Rattle.std.specs.List.{list_any, list_all, AllByRecursion}
use Rattle.std.proofs.lemmas.List.{append-nil, append_assoc}
use Rattle.std.proofs.lemmas.Slice.Eq.{bytes_eq-Decides}
use Rattle.crawl_kinds.specs.declared.event.Event.{Event}
use Rattle.crawl_kinds.specs.declared.event.Event.TheVariants.{Session, Seeds, Emit, Finish}
use Rattle.crawl_kinds.specs.declared.event.Place.{Place}
use Rattle.crawl_kinds.specs.declared.event.Place.TheVariants.{Absent, Waiting, Done}
use Rattle.crawl_kinds.specs.declared.event.Outcome.{Outcome}
use Rattle.crawl_kinds.specs.declared.event.Outcome.TheVariants.{Success, Failure, Disregard, Retry}
use Rattle.crawl_kinds.specs.declared.event.Verdict.{Verdict}
use Rattle.crawl_kinds.specs.declared.event.Verdict.TheVariants.{Allowed, Precluded, Needed, Unsupported, Unreachable}
use Rattle.crawl_kinds.specs.declared.event.End.{End}
use Rattle.crawl_kinds.specs.declared.item.Item.{Item}
use Rattle.crawl_kinds.specs.declared.snapshot.Snapshot.{Snapshot}
use Rattle.crawl_kinds.specs.declared.snapshot.KeyDone.{KeyDone}
use Rattle.crawl_kinds.specs.declared.snapshot.KeyWaits.{KeyWaits}
use Rattle.crawl_kinds.specs.Event.{adds_of, emit_of, finish_of, Emission, Finishing}
use Rattle.crawl_history.specs.Adds.{new_items, next_robots, same_key, seed_candidates, page_candidates, adds_by_outcome, finish_adds}
use Rattle.crawl_history.specs.Counts.{try_number}
use Rattle.crawl_history.specs.Ends.{Suits}
use Rattle.crawl_history.specs.Facts.{Facts, Archive}
use Rattle.crawl_history.specs.History.{History, empty_snapshot, history_from, with_event, with_events, is_session, session_emits}
use Rattle.crawl_history.specs.Outcomes.{is_prerequisite, is_success}
use Rattle.crawl_history.specs.Places.{place_of, place_by, place_by_finish, place_after, has_key, adds_key, is_absent, is_waiting}
use Rattle.crawl_history.specs.Queues.{has_add, all_adds, ordinal_of}
use Rattle.crawl_history.specs.Robots.{redirect_of, status_class}
use Rattle.crawl_history.specs.Scans.{distinct_from}
use Rattle.crawl_history.specs.Scope.{is_in_scope}
use Rattle.crawl_history.specs.Steps.{Step, Steps, Permits, Legal, FinishesOne}
use Rattle.crawl_history.specs.Tickets.{emit_out}
use Rattle.history_promises.specs.Complete.{times_queued, is_kept, is_kept_at, candidates, found, all_kept, Complete}
use Rattle.history_steps.proofs.Placing.{place_of-with_event, has_add-with_event}
use Rattle.history_steps.proofs.Sessions.{session_emits-with_event}
use Rattle.history_laws.proofs.Chosen.{given-chosen}
use Rattle.history_laws.specs.Laws.{WaitsOnce}
use Rattle.history_laws.proofs.Based.{as_add, ordinal_of-once}
use Rattle.history_laws.proofs.Counting.{number}
use Rattle.history_laws.proofs.Keeping.{times_queued-adds, times_queued-not_waiting}
use Rattle.history_laws.proofs.Lists.{or_true, or_left, or_right, both, clash, bytes_itself, find_among, all-append, all-mono}

-- ---- places

-- no event makes a key absent
pub place_by-not_absent : (key : List ℕ) (e : Event) (p : Place) → is_absent p ≡ false → is_absent (unwrap_or (place_by key e) p) ≡ false
place_by-not_absent key e p h = by_cases (adds_key key e) (finish_of e)
  where
    ended : (o : Outcome) (end : End) → is_absent (place_after o end) ≡ false
    ended Success end = refl
    ended Failure end = refl
    ended Disregard end = refl
    ended Retry end = refl

    by_key : (b : Bool) (c : Finishing) → is_absent (unwrap_or (if b then Some (place_after c.end.outcome c.end) else None) p) ≡ false
    by_key true c = ended c.end.outcome c.end
    by_key false c = h

    by_cases : (b : Bool) (o : Option Finishing) → is_absent (unwrap_or (if b then Some Waiting else place_by_finish key o) p) ≡ false
    by_cases true o = refl
    by_cases false None = h
    by_cases false (Some c) = by_key (has_key key c.item) c

pub stays : (h : History) (e : Event) (key : List ℕ) → is_absent (place_of h key) ≡ false → is_absent (place_of (with_event h e) key) ≡ false
stays h e key k = ap is_absent (place_of-with_event h e key) ∙ place_by-not_absent key e (place_of h key) k

-- what an event adds is somewhere
pub added_is_placed : (h : History) (e : Event) (key : List ℕ) → adds_key key e ≡ true → is_absent (place_of (with_event h e) key) ≡ false
added_is_placed h e key k = ap is_absent (place_of-with_event h e key) ∙ ap (λ b. is_absent (unwrap_or (if b then Some Waiting else place_by_finish key (finish_of e)) (place_of h key))) k

-- ---- what holds so far

pub record Known (h : History) : Type 0 where
  pub placed : (key : List ℕ) → is_waiting (place_of h key) ≡ true → has_add h key ≡ true
  pub emitted : AllByRecursion (λ m. has_add h m.item.key ≡ true) (session_emits h)

-- ---- one more event

-- the item of a finish was added before
finished-added : (f : Facts) (a : Archive) (h : History) → Known h → (c : Finishing) → FinishesOne f a h c (emit_out h c.ticket) → has_add h c.item.key ≡ true
finished-added f a h known c = by_emit (emit_out h c.ticket) (λ m is. (find_among (λ m. has_add h m.item.key ≡ true) _ _ (session_emits h) known.emitted m is).0)
  where
    by_emit : (o : Option Emission) → ((m : Emission) → o ≡ Some m → has_add h m.item.key ≡ true) → FinishesOne f a h c o → has_add h c.item.key ≡ true
    by_emit None add ends = absurd ends
    by_emit (Some m) add ends = ap (λ i. has_add h i.key) ends.item ∙ add m refl

-- a key that an event places was added
placed-added : (f : Facts) (a : Archive) (h : History) (e : Event) → Known h → Step f a h e → (key : List ℕ) → is_waiting (place_of (with_event h e) key) ≡ true → has_add (with_event h e) key ≡ true
placed-added f a h e known step key p =
    has_add-with_event h e key
    ∙ by_adds (adds_key key e) (sym (ap is_waiting (place_of-with_event h e key)) ∙ p)
    (by_event e (λ c t. finished-added f a h known c t) step.permits)
  where
    by_adds : (b : Bool) → is_waiting (unwrap_or (if b then Some Waiting else place_by_finish key (finish_of e)) (place_of h key)) ≡ true → (is_waiting (unwrap_or (place_by_finish key (finish_of e)) (place_of h key)) ≡ true → has_add h key ≡ true) → (has_add h key || b) ≡ true
    by_adds true p rest = or_true _
    by_adds false p rest = or_left _ _ (rest p)

    by_event : (e : Event) → ((c : Finishing) → FinishesOne f a h c (emit_out h c.ticket) → has_add h c.item.key ≡ true) → Permits f a h e → is_waiting (unwrap_or (place_by_finish key (finish_of e)) (place_of h key)) ≡ true → has_add h key ≡ true
    by_event (Session time job format) add permits p = known.placed key p
    by_event (Seeds time list adds) add permits p = known.placed key p
    by_event (Emit time caller ticket verdict item) add permits p = known.placed key p
    by_event (Finish time caller ticket item end adds) add permits p =
        by_key (has_key key item) refl (add (record { time = time; caller = caller; ticket = ticket; item = item; end = end; adds = adds }) permits) p
      where
        by_key : (b : Bool) → has_key key item ≡ b → has_add h item.key ≡ true → is_waiting (unwrap_or (if b then Some (place_after end.outcome end) else None) (place_of h key)) ≡ true → has_add h key ≡ true
        by_key true same add p = ap (λ k. has_add h k) (sym ((bytes_eq-Decides item.key key).0 same)) ∙ add
        by_key false same add p = known.placed key p

has_add-stays : (h : History) (e : Event) (key : List ℕ) → has_add h key ≡ true → has_add (with_event h e) key ≡ true
has_add-stays h e key was = has_add-with_event h e key ∙ or_left _ _ was

emitted-added : (f : Facts) (a : Archive) (h : History) (e : Event) → Known h → Step f a h e → AllByRecursion (λ m. has_add (with_event h e) m.item.key ≡ true) (session_emits (with_event h e))
emitted-added f a h e known step =
    subst (AllByRecursion (λ m. has_add (with_event h e) m.item.key ≡ true)) (sym (session_emits-with_event h e))
    (by_event e step.permits (λ key. has_add-stays h e key) (all-mono _ _ (λ m. has_add-stays h e m.item.key) (session_emits h) known.emitted))
  where
    by_event :
        (e' : Event) → Permits f a h e' → ((key : List ℕ) → has_add h key ≡ true → has_add (with_event h e) key ≡ true)
        → AllByRecursion (λ m. has_add (with_event h e) m.item.key ≡ true) (session_emits h)
        → AllByRecursion (λ m. has_add (with_event h e) m.item.key ≡ true) (if is_session e' then [] else session_emits h ++ option_to_list (emit_of e'))
    by_event (Session time job format) permits stay all = tt
    by_event (Seeds time list adds) permits stay all = all-append _ _ _ all tt
    by_event (Emit time caller ticket verdict item) permits stay all = all-append _ _ _ all (stay item.key (given-chosen f a h time item permits.0).queued.added, tt)
    by_event (Finish time caller ticket item end adds) permits stay all = all-append _ _ _ all tt

known-snoc : (f : Facts) (a : Archive) (h : History) (e : Event) → Known h → Step f a h e → Known (with_event h e)
known-snoc f a h e known step = record { placed = placed-added f a h e known step; emitted = emitted-added f a h e known step }

known-along : (f : Facts) (a : Archive) (h : History) (more : List Event) → Known h → Steps f a h more → Known (with_events h more)
known-along f a h [] known steps = subst (λ xs. Known (history_from h.base xs)) (sym (append-nil h.events)) known
known-along f a h (e ∷ more) known steps =
    subst (λ xs. Known (history_from h.base xs)) (append_assoc h.events (e ∷ []) more) (known-along f a (with_event h e) more (known-snoc f a h e known steps.0) steps.1)

-- what waits in a snapshot was added
known-start : (base : Snapshot) → Known (history_from base [])
known-start base = record { placed = λ key waits. in_base key (list_any (λ w. has_key key w.item) base.waiting) refl waits; emitted = tt }
  where
    any-map : (key : List ℕ) (xs : List KeyWaits) → list_any (λ w. has_key key w.item) xs ≡ true → list_any (λ a. has_key key a.item) (map as_add xs ++ []) ≡ true
    any-map key [] any = cc any
    any-map key (w ∷ xs) any = by_head (has_key key w.item) any (any-map key xs)
      where
        by_head : (b : Bool) → (b || list_any (λ w. has_key key w.item) xs) ≡ true → (list_any (λ w. has_key key w.item) xs ≡ true → list_any (λ a. has_key key a.item) (map as_add xs ++ []) ≡ true) → (b || list_any (λ a. has_key key a.item) (map as_add xs ++ [])) ≡ true
        by_head true any rest = refl
        by_head false any rest = rest any

    not_waiting : (key : List ℕ) (o : Option KeyDone) → is_waiting (unwrap_or (option_map (λ d. Done d.code) o) Absent) ≡ true → ⊥
    not_waiting key None e = cc e
    not_waiting key (Some d) e = cc e

    in_base :
        (key : List ℕ) (b : Bool) → list_any (λ w. has_key key w.item) base.waiting ≡ b
        → is_waiting (if b then Waiting else unwrap_or (option_map (λ d. Done d.code) (find (λ d. bytes_eq d.key key) base.finished)) Absent) ≡ true
        → has_add (history_from base []) key ≡ true
    in_base key true is waits = any-map key base.waiting is
    in_base key false is waits = absurd (not_waiting key (find (λ d. bytes_eq d.key key) base.finished) waits)

-- ---- what is found is somewhere

-- the distinct items have each key
any-distinct : (key : List ℕ) (seen xs : List Item) → list_any (has_key key) xs ≡ true → (list_any (has_key key) (distinct_from same_key seen xs) || list_any (has_key key) seen) ≡ true
any-distinct key seen [] e = cc e
any-distinct key seen (x ∷ xs) e = by_cases (list_any (same_key x) seen) refl (has_key key x) refl e (any-distinct key seen xs) (any-distinct key (x ∷ seen) xs)
  where
    regroup : (b c d : Bool) → (c || (b || d)) ≡ true → ((b || c) || d) ≡ true
    regroup true c d e = refl
    regroup false c d e = e

    by_cases :
        (s : Bool) → list_any (same_key x) seen ≡ s → (b : Bool) → has_key key x ≡ b → (b || list_any (has_key key) xs) ≡ true
        → (list_any (has_key key) xs ≡ true → (list_any (has_key key) (distinct_from same_key seen xs) || list_any (has_key key) seen) ≡ true)
        → (list_any (has_key key) xs ≡ true → (list_any (has_key key) (distinct_from same_key (x ∷ seen) xs) || list_any (has_key key) (x ∷ seen)) ≡ true)
        → (list_any (has_key key) (if s then distinct_from same_key seen xs else x ∷ distinct_from same_key (x ∷ seen) xs) || list_any (has_key key) seen) ≡ true
    by_cases true was true k e rest more =
        or_right _ _ (ap (λ q. list_any (has_key q) seen) (sym ((bytes_eq-Decides x.key key).0 k)) ∙ was)
    by_cases true was false k e rest more = rest e
    by_cases false was true k e rest more = or_left _ _ (or_left _ _ k)
    by_cases false was false k e rest more = regroup (has_key key x) (list_any (has_key key) (distinct_from same_key (x ∷ seen) xs)) (list_any (has_key key) seen) (more e)

-- each candidate in scope is somewhere once its like is among the adds
new-placed :
    (f : Facts) (h : History) (e : Event) (candidates : List Item) → adds_of e ≡ new_items f h candidates
    → AllByRecursion (λ i. is_absent (place_of (with_event h e) i.key) ≡ false) (filter (is_in_scope f h) candidates)
new-placed f h e candidates is = each candidates (λ key any. added_is_placed h e key (ap (list_any (has_key key)) is ∙ no_seen _ (any-distinct key [] (filter (λ i. is_in_scope f h i && is_absent (place_of h i.key)) candidates) any)))
  where
    no_seen : (b : Bool) → (b || false) ≡ true → b ≡ true
    no_seen true e = refl
    no_seen false e = e

    each : (xs : List Item) → ((key : List ℕ) → list_any (has_key key) (filter (λ i. is_in_scope f h i && is_absent (place_of h i.key)) xs) ≡ true → is_absent (place_of (with_event h e) key) ≡ false) → AllByRecursion (λ i. is_absent (place_of (with_event h e) i.key) ≡ false) (filter (is_in_scope f h) xs)
    each [] added = tt
    each (x ∷ xs) added = by_scope (is_in_scope f h x) refl (each xs (λ key any. added key (more key (is_in_scope f h x && is_absent (place_of h x.key)) any)))
      where
        more : (key : List ℕ) (b : Bool) → list_any (has_key key) (filter (λ i. is_in_scope f h i && is_absent (place_of h i.key)) xs) ≡ true → list_any (has_key key) (cond b (x ∷ filter (λ i. is_in_scope f h i && is_absent (place_of h i.key)) xs) (filter (λ i. is_in_scope f h i && is_absent (place_of h i.key)) xs)) ≡ true
        more key true any = or_right _ _ any
        more key false any = any

        by_place : (b : Bool) → is_absent (place_of h x.key) ≡ b → is_in_scope f h x ≡ true → is_absent (place_of (with_event h e) x.key) ≡ false
        by_place false was scope = stays h e x.key was
        by_place true was scope =
            added x.key
            (ap (λ c. list_any (has_key x.key) (cond c (x ∷ filter (λ i. is_in_scope f h i && is_absent (place_of h i.key)) xs) (filter (λ i. is_in_scope f h i && is_absent (place_of h i.key)) xs)))
            (ap (λ c. c && is_absent (place_of h x.key)) scope ∙ was)
            ∙ or_left _ _ (bytes_itself x.key))

        by_scope : (b : Bool) → is_in_scope f h x ≡ b → AllByRecursion (λ i. is_absent (place_of (with_event h e) i.key) ≡ false) (filter (is_in_scope f h) xs) → AllByRecursion (λ i. is_absent (place_of (with_event h e) i.key) ≡ false) (cond b (x ∷ filter (is_in_scope f h) xs) (filter (is_in_scope f h) xs))
        by_scope true scope rest = (by_place (is_absent (place_of h x.key)) refl scope, rest)
        by_scope false scope rest = rest

-- a page that is a success was allowed, and adds its new candidates
page-adds :
    (f : Facts) (a : Archive) (h : History) (c : Finishing) (o : Option Emission) → FinishesOne f a h c o → is_success c.end.outcome ≡ true → is_prerequisite c.item ≡ false
    → c.adds ≡ new_items f h (page_candidates f a c)
page-adds f a h c None permits success page = absurd permits
page-adds f a h c (Some m) permits success page = by_verdict m.verdict permits.suits permits.adds
  where
    other : (o : Outcome) (P : Type 0) → is_success o ≡ false → c.end.outcome ≡ o → P
    other o P fails is = absurd (clash (sym success ∙ ap is_success is ∙ fails))

    by_outcome : (o : Outcome) → is_success o ≡ true → c.adds ≡ adds_by_outcome f a h c o → c.adds ≡ new_items f h (page_candidates f a c)
    by_outcome Success good adds = adds ∙ ap (λ b. if b then next_robots f h c (if status_class c == 3 then redirect_of f a c else None) else new_items f h (page_candidates f a c)) page
    by_outcome Failure good adds = cc good
    by_outcome Disregard good adds = cc good
    by_outcome Retry good adds = cc good

    by_verdict : (v : Verdict) → Suits f a (try_number h m.item.key) c.item c.end v → c.adds ≡ finish_adds f a h c v → c.adds ≡ new_items f h (page_candidates f a c)
    by_verdict Allowed suits adds = by_outcome c.end.outcome success adds
    by_verdict Precluded suits adds = other Disregard _ refl (ap (λ e. e.outcome) suits)
    by_verdict Needed suits adds = other Retry _ refl (ap (λ e. e.outcome) suits)
    by_verdict Unsupported suits adds = other Failure _ refl (ap (λ e. e.outcome) suits)
    by_verdict Unreachable suits adds = other Failure _ refl (ap (λ e. e.outcome) suits)

found-placed : (f : Facts) (a : Archive) (h : History) (e : Event) → Step f a h e → AllByRecursion (λ i. is_absent (place_of (with_event h e) i.key) ≡ false) (found f a h e)
found-placed f a h e step = by_event e step.permits
  where
    by_event : (e : Event) → Permits f a h e → AllByRecursion (λ i. is_absent (place_of (with_event h e) i.key) ≡ false) (found f a h e)
    by_event (Session time job format) permits = tt
    by_event (Seeds time list adds) permits = new-placed f h (Seeds time list adds) (seed_candidates f list) permits
    by_event (Emit time caller ticket verdict item) permits = tt
    by_event (Finish time caller ticket item end adds) permits =
        by_page (is_success end.outcome) (is_prerequisite item) refl refl
        (λ success page. new-placed f h (Finish time caller ticket item end adds) (page_candidates f a c) (page-adds f a h c (emit_out h ticket) permits success page))
      where
        c : Finishing
        c = record { time = time; caller = caller; ticket = ticket; item = item; end = end; adds = adds }

        by_page :
            (s p : Bool) → is_success end.outcome ≡ s → is_prerequisite item ≡ p
            → (is_success end.outcome ≡ true → is_prerequisite item ≡ false → AllByRecursion (λ i. is_absent (place_of (with_event h (Finish time caller ticket item end adds)) i.key) ≡ false) (filter (is_in_scope f h) (page_candidates f a c)))
            → AllByRecursion (λ i. is_absent (place_of (with_event h (Finish time caller ticket item end adds)) i.key) ≡ false) (filter (is_in_scope f h) (if s && not p then page_candidates f a c else []))
        by_page true true is at page = tt
        by_page true false is at page = page is at
        by_page false true is at page = tt
        by_page false false is at page = tt

-- ---- the law

stays-along : (h : History) (es : List Event) (key : List ℕ) → is_absent (place_of h key) ≡ false → is_absent (place_of (with_events h es) key) ≡ false
stays-along h [] key p = subst (λ xs. is_absent (place_of (history_from h.base xs) key) ≡ false) (sym (append-nil h.events)) p
stays-along h (e ∷ es) key p =
    subst (λ xs. is_absent (place_of (history_from h.base xs) key) ≡ false) (append_assoc h.events (e ∷ []) es)
    (stays-along (with_event h e) es key (stays h e key p))

-- a key that was added and waits stands in the queues once
pub times_queued-waiting : (h : History) (key : List ℕ) → WaitsOnce h.base → is_waiting (place_of h key) ≡ true → has_add h key ≡ true → times_queued h key ≡ 1
times_queued-waiting h key sound waits any =
    times_queued-adds h key
    ∙ ap (λ w. number (λ a. has_key key a.item && (w && a.ordinal == ordinal_of h key)) (all_adds h)) waits
    ∙ ordinal_of-once h key sound any

-- a key that is somewhere is kept
kept : (h : History) → WaitsOnce h.base → Known h → (key : List ℕ) → is_absent (place_of h key) ≡ false → is_kept h key ≡ true
kept h sound known key p = by_place (place_of h key) refl p (times_queued-not_waiting h key) (λ w. times_queued-waiting h key sound w (known.placed key w))
  where
    by_place :
        (q : Place) → place_of h key ≡ q → is_absent q ≡ false → (is_waiting q ≡ false → times_queued h key ≡ 0) → (is_waiting q ≡ true → times_queued h key ≡ 1)
        → is_kept_at q (times_queued h key) ≡ true
    by_place Absent is p none once = cc p
    by_place Waiting is p none once = ap (λ n. n == 1) (once refl)
    by_place (Done code) is p none once = ap (λ n. n == 0) (none refl)

all-kept : (f : Facts) (a : Archive) (last h : History) (es : List Event) → with_events h es ≡ last → WaitsOnce last.base → Known last → Steps f a h es → all_kept f a last h es ≡ true
all-kept f a last h [] is sound known steps = refl
all-kept f a last h (e ∷ es) is sound known steps =
    both (each (found f a h e) (found-placed f a h e steps.0))
    (all-kept f a last (with_event h e) es (ap (history_from h.base) (append_assoc h.events (e ∷ []) es) ∙ is) sound known steps.1)
  where
    each : (xs : List Item) → AllByRecursion (λ i. is_absent (place_of (with_event h e) i.key) ≡ false) xs → list_all (λ i. is_kept last i.key) xs ≡ true
    each [] all = refl
    each (x ∷ xs) all =
        both
        (kept last sound known x.key
        (subst (λ g. is_absent (place_of g x.key) ≡ false) (ap (history_from h.base) (append_assoc h.events (e ∷ []) es) ∙ is)
        (stays-along (with_event h e) es x.key all.0)))
        (each xs all.1)

pub complete-from :
    (f : Facts) (a : Archive) (base : Snapshot) (events : List Event) → WaitsOnce base → Steps f a (history_from base []) events
    → all_kept f a (history_from base events) (history_from base []) events ≡ true
complete-from f a base events sound steps =
    all-kept f a (history_from base events) (history_from base []) events refl sound (known-along f a (history_from base []) events (known-start base) steps) steps

-- the empty snapshot holds nothing
pub nothing-waits : WaitsOnce empty_snapshot
nothing-waits = record { keys = λ key. zero-le; ordinals = tt }

pub legal-complete : (f : Facts) (a : Archive) (events : List Event) → Legal f a events → Complete f a events
legal-complete f a events legal = complete-from f a empty_snapshot events nothing-waits legal

-- a key that waits after steps was added, and so stands in the queues once
pub queued_once-from :
    (f : Facts) (a : Archive) (base : Snapshot) (events : List Event) → WaitsOnce base → Steps f a (history_from base []) events
    → (key : List ℕ) → is_waiting (place_of (history_from base events) key) ≡ true → times_queued (history_from base events) key ≡ 1
queued_once-from f a base events sound steps key waits =
    times_queued-waiting (history_from base events) key sound waits
    ((known-along f a (history_from base []) events (known-start base) steps).placed key waits)
