-- What an emit answers, by the least add that waits and may go.
use Rattle.std.proofs.Common.{◌≡◌, ℕ, Bool, true, false, ◌&&◌, ◌||◌, not, cond, List, [], ◌∷◌, map, refl, ◌∙◌, ap, subst, arith, nat_lt, nat_le, ltb-false, Some, None}
use Rattle.std.specs.Prelude.{filter, is_none, option_map, option_and_then, Contains, if◌then◌else◌}
use Rattle.std.specs.List.{list_any}
use Rattle.std.specs.Ordering.{is_lt}
use Rattle.std.proofs.lemmas.Bool.{leb-true, leb-false}
use Rattle.std.proofs.lemmas.Slice.Eq.{bytes_eq-Decides}
use Rattle.crawl_kinds.specs.Event.{Emission}
use Rattle.crawl_history.specs.History.{History}
use Rattle.crawl_history.specs.Queues.{Add, all_adds, is_waiting_add, waiting_adds, in_class, queue, waiting_classes}
use Rattle.crawl_history.specs.Scans.{first_of, least_of}
use Rattle.crawl_history.specs.Counts.{is_retired, is_limit_met}
use Rattle.crawl_history.specs.Tickets.{emits_out, is_out}
use Rattle.crawl_history.specs.Facts.{Facts, Archive}
use Rattle.crawl_history.specs.Waits.{wake}
use Rattle.crawl_history.specs.Emission.{Snoozed, goes_before, live_classes, snoozed, ready, next_work, next_wake, is_over, is_empty, answer, answer_by, Gives, NotYet, Over}
use Rattle.emission_laws.specs.Choice.{OrdinalsRise, may_go, GoesNext, NoneMayGo}
use Rattle.emission_laws.specs.Laws.{answer_at, NothingGoes}
use Rattle.emission_laws.proofs.Choosing.{first-is_least, by_rank, least-add, least-is, rising-filter}
use Rattle.emission_laws.proofs.Members.{Among, from_contains, to_contains, none_among, among-filter, from-filter, among-map, from-map, among-distinct, from-distinct}
use Rattle.emission_laws.proofs.Order.{snooze, queue_order, not_before, within_class, same_class}
use Rattle.emission_laws.proofs.Waiting.{rising}

left_true : (b c : Bool) → (b && c) ≡ true → b ≡ true
left_true true c e = refl
left_true false c e = cc e

right_true : (b c : Bool) → (b && c) ≡ true → c ≡ true
right_true true c e = e
right_true false c e = cc e

both_true : (b c : Bool) → b ≡ true → c ≡ true → (b && c) ≡ true
both_true b c p q = ap (λ b. b && c) p ∙ q

filter-map : {X Y : Type 0} (p : Y → Bool) (g : X → Y) (xs : List X) → filter p (map g xs) ≡ map g (filter (λ x. p (g x)) xs)
filter-map p g [] = refl
filter-map {X} p g (x ∷ xs) = ap (λ ys. cond (p (g x)) (g x ∷ ys) ys) (filter-map p g xs) ∙ by_test (p (g x))
  where
    by_test : (b : Bool) → cond b (g x ∷ map g (filter (λ x. p (g x)) xs)) (map g (filter (λ x. p (g x)) xs)) ≡ map g (cond b (x ∷ filter (λ x. p (g x)) xs) (filter (λ x. p (g x)) xs))
    by_test true = refl
    by_test false = refl

-- ---- the classes that are looked at

module _ (f : Facts) (a : Archive) (h : History) where
  -- a class with an add that waits is among them, and every one has such an add
  among-live : (x : Add) → Among (waiting_adds h) x → is_retired f.settings h x.item.class ≡ false → Among (live_classes f.settings h) x.item.class
  among-live x waits left =
      among-filter (λ class. not (is_retired f.settings h class)) (waiting_classes h) x.item.class
      (among-distinct (map (λ a. a.item.class) (waiting_adds h)) x.item.class (among-map (λ a. a.item.class) (waiting_adds h) x waits)) (ap not left)

  from-live : (k : List ℕ) → Among (live_classes f.settings h) k → (x : Add) × Among (waiting_adds h) x × (is_retired f.settings h x.item.class ≡ false) × (x.item.class ≡ k)
  from-live k among = by_class (from-filter (λ class. not (is_retired f.settings h class)) (waiting_classes h) k among)
    where
      not_true : (b : Bool) → not b ≡ true → b ≡ false
      not_true true e = cc e
      not_true false e = refl

      by_add :
          not (is_retired f.settings h k) ≡ true → (x : Add) × Among (waiting_adds h) x × (x.item.class ≡ k)
          → (x : Add) × Among (waiting_adds h) x × (is_retired f.settings h x.item.class ≡ false) × (x.item.class ≡ k)
      by_add live (x, waits, is) = (x, waits, ap (is_retired f.settings h) is ∙ not_true _ live, is)

      by_class :
          Among (waiting_classes h) k × (not (is_retired f.settings h k) ≡ true)
          → (x : Add) × Among (waiting_adds h) x × (is_retired f.settings h x.item.class ≡ false) × (x.item.class ≡ k)
      by_class (known, live) = by_add live (from-map (λ a. a.item.class) (waiting_adds h) k (from-distinct (map (λ a. a.item.class) (waiting_adds h)) k known))

  abbrev snooze_class : List ℕ → Snoozed
  snooze_class k = record { wake = wake f a h k; class = k }

  among-snoozed : (x : Add) → Among (waiting_adds h) x → may_go f.settings h x ≡ true → Among (snoozed f a h) (snooze (wake f a h) x)
  among-snoozed x waits may =
      among-map (λ k. record { wake = wake f a h k; class = k }) (filter (λ class. not (is_out h class)) (live_classes f.settings h)) x.item.class
      (among-filter (λ class. not (is_out h class)) (live_classes f.settings h) x.item.class
      (among-live x waits (open_left (is_retired f.settings h x.item.class) may)) (right_true (not (is_retired f.settings h x.item.class)) _ may))
    where
      open_left : (b : Bool) → (not b && not (is_out h x.item.class)) ≡ true → b ≡ false
      open_left true e = cc e
      open_left false e = refl

  from-snoozed : (s : Snoozed) → Among (snoozed f a h) s → (x : Add) × Among (waiting_adds h) x × (may_go f.settings h x ≡ true) × (snooze (wake f a h) x ≡ s)
  from-snoozed s among = by_class (from-map (λ k. record { wake = wake f a h k; class = k }) (filter (λ class. not (is_out h class)) (live_classes f.settings h)) s among)
    where
      by_add :
          (k : List ℕ) → not (is_out h k) ≡ true → snooze_class k ≡ s
          → (x : Add) × Among (waiting_adds h) x × (is_retired f.settings h x.item.class ≡ false) × (x.item.class ≡ k)
          → (x : Add) × Among (waiting_adds h) x × (may_go f.settings h x ≡ true) × (snooze (wake f a h) x ≡ s)
      by_add k closed is (x, waits, left, of_class) =
          (x, waits, both_true (not (is_retired f.settings h x.item.class)) (not (is_out h x.item.class)) (ap not left) (ap (λ k. not (is_out h k)) of_class ∙ closed), ap snooze_class of_class ∙ is)

      by_open :
          (k : List ℕ) → snooze_class k ≡ s → Among (live_classes f.settings h) k × (not (is_out h k) ≡ true)
          → (x : Add) × Among (waiting_adds h) x × (may_go f.settings h x ≡ true) × (snooze (wake f a h) x ≡ s)
      by_open k is (live, closed) = by_add k closed is (from-live k live)

      by_class :
          (k : List ℕ) × Among (filter (λ class. not (is_out h class)) (live_classes f.settings h)) k × (snooze_class k ≡ s)
          → (x : Add) × Among (waiting_adds h) x × (may_go f.settings h x ≡ true) × (snooze (wake f a h) x ≡ s)
      by_class (k, among, is) = by_open k is (from-filter (λ class. not (is_out h class)) (live_classes f.settings h) k among)

  -- ---- where nothing goes

  none-snoozed : NoneMayGo f.settings h → snoozed f a h ≡ []
  none-snoozed none = none_among (snoozed f a h) (λ s among. clash s (from-snoozed s among))
    where
      clash : (s : Snoozed) → (x : Add) × Among (waiting_adds h) x × (may_go f.settings h x ≡ true) × (snooze (wake f a h) x ≡ s) → ⊥
      clash s (x, waits, may, is) = let e = none x (to_contains (waiting_adds h) x waits) in cc

  none-live : NoneMayGo f.settings h → emits_out h ≡ [] → live_classes f.settings h ≡ []
  none-live none nothing = none_among (live_classes f.settings h) (λ k among. clash k (from-live k among))
    where
      clash : (k : List ℕ) → (x : Add) × Among (waiting_adds h) x × (is_retired f.settings h x.item.class ≡ false) × (x.item.class ≡ k) → ⊥
      clash k (x, waits, left, of_class) =
          let may = both_true (not (is_retired f.settings h x.item.class)) (not (is_out h x.item.class)) (ap not left) (ap (λ ms. not (list_any (λ m. in_class x.item.class m.item) ms)) nothing) in
          let e = none x (to_contains (waiting_adds h) x waits) in
          cc

  nothing-goes :
      (t : ℕ) → next_work f a h t ≡ None → next_wake f a h t ≡ None
      → (emits_out h ≡ [] → (is_limit_met f.settings h t || is_empty (live_classes f.settings h)) ≡ true) → NothingGoes f a h t
  nothing-goes t no_work no_wake ends =
      record {
        answered =
            ap (answer_by f a h t) no_work
            ∙ ap (λ b. if b then Over else NotYet (next_wake f a h t)) over
            ∙ ap (λ o. if is_empty (emits_out h) then Over else NotYet o) no_wake;
        over = over;
      }
    where
      by_out : (ms : List Emission) (b : Bool) → (ms ≡ [] → b ≡ true) → (true && is_empty ms && b) ≡ is_empty ms
      by_out [] b ends = ends refl
      by_out (m ∷ ms) b ends = refl

      over : is_over f a h t ≡ is_empty (emits_out h)
      over =
          ap (λ o. is_none o && is_empty (emits_out h) && (is_limit_met f.settings h t || is_empty (live_classes f.settings h))) no_work
          ∙ by_out (emits_out h) _ ends

  pub limited : (t : ℕ) → is_limit_met f.settings h t ≡ true → NothingGoes f a h t
  limited t met =
      nothing-goes t
      (ap (λ b. if b then None else option_and_then (λ s. first_of (queue h s.class)) (least_of goes_before (ready f a h t))) met)
      (ap (λ b. if b then None else option_map (λ s. s.wake) (least_of goes_before (snoozed f a h))) met)
      (λ nothing. ap (λ b. b || is_empty (live_classes f.settings h)) met)

  pub idle : (t : ℕ) → NoneMayGo f.settings h → NothingGoes f a h t
  idle t none =
      nothing-goes t
      (ap (λ ss. if is_limit_met f.settings h t then None else option_and_then (λ s. first_of (queue h s.class)) (least_of goes_before (filter (λ s. nat_le s.wake t) ss))) (none-snoozed none)
      ∙ no_item (is_limit_met f.settings h t))
      (ap (λ ss. if is_limit_met f.settings h t then None else option_map (λ s. s.wake) (least_of goes_before ss)) (none-snoozed none)
      ∙ no_time (is_limit_met f.settings h t))
      (λ nothing. ap (λ ks. is_limit_met f.settings h t || is_empty ks) (none-live none nothing) ∙ or_true (is_limit_met f.settings h t))
    where
      no_item : (b : Bool) → (if b then None else option_and_then (λ s. first_of (queue h s.class)) (least_of goes_before [])) ≡ None
      no_item true = refl
      no_item false = refl

      no_time : (b : Bool) → (if b then None else option_map (λ s. s.wake) (least_of goes_before [])) ≡ None
      no_time true = refl
      no_time false = refl

      or_true : (b : Bool) → (b || true) ≡ true
      or_true true = refl
      or_true false = refl

  pub out : (t : ℕ) → is_empty (emits_out h) ≡ false → is_over f a h t ≡ false
  out t some =
      ap (λ b. is_none (next_work f a h t) && b && (is_limit_met f.settings h t || is_empty (live_classes f.settings h))) some
      ∙ by_work (is_none (next_work f a h t)) (is_limit_met f.settings h t || is_empty (live_classes f.settings h))
    where
      by_work : (b c : Bool) → (b && false && c) ≡ false
      by_work true c = refl
      by_work false c = refl

  -- ---- where something goes

  pub live : (t : ℕ) (x : Add) → is_limit_met f.settings h t ≡ false → Contains (waiting_adds h) x → may_go f.settings h x ≡ true → is_over f a h t ≡ false
  live t x unmet waits may =
      ap (λ b. is_none (next_work f a h t) && is_empty (emits_out h) && (b || is_empty (live_classes f.settings h))) unmet
      ∙ ap (λ b. is_none (next_work f a h t) && is_empty (emits_out h) && (false || b))
      (not_empty (live_classes f.settings h) x.item.class (among-live x (from_contains (waiting_adds h) x waits) (open_left (is_retired f.settings h x.item.class) may)))
      ∙ by_work (is_none (next_work f a h t)) (is_empty (emits_out h))
    where
      open_left : (b : Bool) → (not b && not (is_out h x.item.class)) ≡ true → b ≡ false
      open_left true e = cc e
      open_left false e = refl

      not_empty : (ks : List (List ℕ)) (k : List ℕ) → Among ks k → is_empty ks ≡ false
      not_empty [] k among = absurd among
      not_empty (j ∷ ks) k among = refl

      by_work : (b c : Bool) → (b && c && (false || false)) ≡ false
      by_work true true = refl
      by_work true false = refl
      by_work false c = refl

  module _ (t : ℕ) (x : Add) (unmet : is_limit_met f.settings h t ≡ false) (rise : OrdinalsRise h) (next : GoesNext f.settings (wake f a h) h x) where
    among-x : Among (waiting_adds h) x
    among-x = from_contains (waiting_adds h) x next.waits

    first-snoozed : (s : Snoozed) → Among (snoozed f a h) s → goes_before s (snooze (wake f a h) x) ≡ false
    first-snoozed s among = by_add (from-snoozed s among)
      where
        by_add : (y : Add) × Among (waiting_adds h) y × (may_go f.settings h y ≡ true) × (snooze (wake f a h) y ≡ s) → goes_before s (snooze (wake f a h) x) ≡ false
        by_add (y, waits, may, is) =
            subst (λ s. goes_before s (snooze (wake f a h) x) ≡ false) is
            (not_before (wake f a h) y x (next.first y (to_contains (waiting_adds h) y waits) may))

    least-snoozed : least_of goes_before (snoozed f a h) ≡ Some (snooze (wake f a h) x)
    least-snoozed = least-is goes_before same_class (snoozed f a h) (snooze (wake f a h) x) (among-snoozed x among-x next.may) first-snoozed

    -- of its class it is the first
    first-queued : first_of (queue h x.item.class) ≡ Some x.item
    first-queued =
        first-is_least (filter (in_class x.item.class) (map (λ a. a.item) (waiting_adds h)))
        ∙ ap (least_of by_rank) (filter-map (in_class x.item.class) (λ a. a.item) (waiting_adds h))
        ∙ least-add (filter (λ a. in_class x.item.class a.item) (waiting_adds h)) x
        (rising-filter (λ a. in_class x.item.class a.item) (waiting_adds h) (rising-filter (is_waiting_add h) (all_adds h) (rising h rise)))
        (among-filter (λ a. in_class x.item.class a.item) (waiting_adds h) x among-x ((bytes_eq-Decides x.item.class x.item.class).1 refl))
        (λ y among. in_its_class y (from-filter (λ a. in_class x.item.class a.item) (waiting_adds h) y among))
      where
        in_its_class : (y : Add) → Among (waiting_adds h) y × (in_class x.item.class y.item ≡ true) → is_lt (queue_order y x) ≡ false
        in_its_class y (waits, of_class) =
            let same : y.item.class ≡ x.item.class = (bytes_eq-Decides y.item.class x.item.class).0 of_class in
            within_class (wake f a h) y x same
            (next.first y (to_contains (waiting_adds h) y waits) (ap (λ k. not (is_retired f.settings h k) && not (is_out h k)) same ∙ next.may))

    work-due : nat_le (wake f a h x.item.class) t ≡ true → next_work f a h t ≡ Some x.item
    work-due due =
        ap (λ b. if b then None else option_and_then (λ s. first_of (queue h s.class)) (least_of goes_before (ready f a h t))) unmet
        ∙ ap (option_and_then (λ s. first_of (queue h s.class)))
        (least-is goes_before same_class (ready f a h t) (snooze (wake f a h) x)
        (among-filter (λ s. nat_le s.wake t) (snoozed f a h) (snooze (wake f a h) x) (among-snoozed x among-x next.may) due)
        (λ s among. first-snoozed s (from-filter (λ s. nat_le s.wake t) (snoozed f a h) s among).0))
        ∙ first-queued

    work-not_due : nat_le (wake f a h x.item.class) t ≡ false → next_work f a h t ≡ None
    work-not_due early =
        ap (λ b. if b then None else option_and_then (λ s. first_of (queue h s.class)) (least_of goes_before (ready f a h t))) unmet
        ∙ ap (λ ss. option_and_then (λ s. first_of (queue h s.class)) (least_of goes_before ss))
        (none_among (ready f a h t) (λ s among. too_early s (from-filter (λ s. nat_le s.wake t) (snoozed f a h) s among)))
      where
        not_left : (b c : Bool) → (b || c) ≡ false → b ≡ false
        not_left true c e = cc e
        not_left false c e = refl

        too_early : (s : Snoozed) → Among (snoozed f a h) s × (nat_le s.wake t ≡ true) → ⊥
        too_early s (among, ripe) =
            let no_less = ltb-false s.wake (wake f a h x.item.class) (not_left (nat_lt s.wake (wake f a h x.item.class)) _ (first-snoozed s among)) in
            let one = leb-true s.wake t ripe in
            let other = leb-false (wake f a h x.item.class) t early in
            absurd (omega (arith, no_less, one, other))

    pub least : answer f a h t ≡ answer_at (wake f a h x.item.class) t x
    least = by_wake (nat_le (wake f a h x.item.class) t) refl
      where
        by_wake : (b : Bool) → nat_le (wake f a h x.item.class) t ≡ b → answer f a h t ≡ (if b then Gives x.item else NotYet (Some (wake f a h x.item.class)))
        by_wake true due = ap (answer_by f a h t) (work-due due)
        by_wake false early =
            ap (answer_by f a h t) (work-not_due early)
            ∙ ap (λ b. if b then Over else NotYet (next_wake f a h t)) (live t x unmet next.waits next.may)
            ∙ ap NotYet
            (ap (λ b. if b then None else option_map (λ s. s.wake) (least_of goes_before (snoozed f a h))) unmet
            ∙ ap (option_map (λ s. s.wake)) least-snoozed)
