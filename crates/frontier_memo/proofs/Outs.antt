-- What is out waits, was added last under its key, and is alone under it: so where each event may stand after those before it.
use Rattle.std.proofs.Common.{◌≡◌, ℕ, ◌+◌, Bool, true, false, ◌||◌, not, ◌==◌, cond, List, [], ◌∷◌, ◌++◌, refl, sym, ◌∙◌, ap, subst, Option, Some, None}
use Rattle.std.specs.Prelude.{filter, find, option_map, unwrap_or, if◌then◌else◌}
use Rattle.std.specs.List.{list_any, AllByRecursion}
use Rattle.std.specs.Option.{option_or}
use Rattle.std.proofs.lemmas.Bool.Decides.{Decides-eqb}
use Rattle.std.proofs.lemmas.List.{append-nil}
use Rattle.std.proofs.lemmas.Slice.Eq.{bytes_eq-Decides}
use Rattle.crawl_kinds.specs.declared.event.Event.{Event}
use Rattle.crawl_kinds.specs.declared.event.Event.TheVariants.{Session, Seeds, Emit, Finish}
use Rattle.crawl_kinds.specs.declared.event.Place.TheVariants.{Waiting}
use Rattle.crawl_kinds.specs.declared.event.End.{End}
use Rattle.crawl_kinds.specs.declared.item.Item.{Item}
use Rattle.crawl_kinds.specs.Event.{adds_of, finish_of, Emission}
use Rattle.crawl_history.specs.Scans.{last_of}
use Rattle.crawl_history.specs.History.{History, with_event, session_finishes}
use Rattle.crawl_history.specs.Places.{place_of, place_by_finish, place_after, is_waiting, has_key}
use Rattle.crawl_history.specs.Queues.{all_adds, adds_from, ordinal_count, in_class}
use Rattle.crawl_history.specs.Tickets.{emits_out, emit_out, is_ended, is_out}
use Rattle.history_steps.specs.ScansStep.{ends_emit, out_by}
use Rattle.history_steps.proofs.Lists.{last_of-append}
use Rattle.history_steps.proofs.Placing.{all_adds-with_event, place_of-with_event}
use Rattle.history_steps.proofs.Sessions.{emits_out-with_event}
use Rattle.frontier_memo.specs.Outs.{OutStands, IsApart, Outs, OutsStand}
use Rattle.frontier_memo.specs.Fits.{item_at, last_added, place_at_add, AddsFit, Fits, EmitFits, FinishFits}
use Rattle.frontier_memo.proofs.Counting.{bytes_laws}
use Rattle.frontier_memo.proofs.Lists.{all-filter, found}

-- ---- lists

all-with : {X : Type 0} (P Q : X → Type 0) → ((x : X) → P x → Q x) → (xs : List X) → AllByRecursion P xs → AllByRecursion Q xs
all-with P Q w [] all = tt
all-with P Q w (x ∷ xs) all = (w x all.0, all-with P Q w xs all.1)

all-both : {X : Type 0} (P Q : X → Type 0) (xs : List X) → AllByRecursion P xs → AllByRecursion Q xs → AllByRecursion (λ x. P x × Q x) xs
all-both P Q [] p q = tt
all-both P Q (x ∷ xs) p q = ((p.0, q.0), all-both P Q xs p.1 q.1)

all-end : {X : Type 0} (P : X → Type 0) (xs : List X) (x : X) → AllByRecursion P xs → P x → AllByRecursion P (xs ++ x ∷ [])
all-end P [] x all p = (p, tt)
all-end P (y ∷ ys) x all p = (all.0, all-end P ys x all.1 p)

filter-true : {X : Type 0} (p : X → Bool) → ((x : X) → p x ≡ true) → (xs : List X) → filter p xs ≡ xs
filter-true p each [] = refl
filter-true p each (x ∷ xs) = ap (λ b. cond b (x ∷ filter p xs) (filter p xs)) (each x) ∙ ap (λ ys. x ∷ ys) (filter-true p each xs)

filter-like : {X : Type 0} (p q : X → Bool) → ((x : X) → p x ≡ q x) → (xs : List X) → filter p xs ≡ filter q xs
filter-like p q same [] = refl
filter-like p q same (x ∷ xs) = ap (λ b. cond b (x ∷ filter p xs) (filter p xs)) (same x) ∙ ap (λ ys. cond (q x) (x ∷ ys) ys) (filter-like p q same xs)

-- an element that passes, with those before and after it
some_split : {X : Type 0} (p : X → Bool) (xs : List X) → list_any p xs ≡ true → (earlier : List X) × (x : X) × (later : List X) × (xs ≡ earlier ++ x ∷ later) × (p x ≡ true)
some_split p [] h = cc
some_split {X} p (y ∷ ys) h = by_test (p y) refl h (some_split p ys)
  where
    by_test :
        (b : Bool) → p y ≡ b → (b || list_any p ys) ≡ true
        → (list_any p ys ≡ true → (earlier : List X) × (x : X) × (later : List X) × (ys ≡ earlier ++ x ∷ later) × (p x ≡ true))
        → (earlier : List X) × (x : X) × (later : List X) × (y ∷ ys ≡ earlier ++ x ∷ later) × (p x ≡ true)
    by_test true is h more = ([], y, ys, refl, is)
    by_test false is h more = let rest = more h in (y ∷ rest.0, rest.1, rest.2, ap (λ zs. y ∷ zs) rest.3, rest.4)

none_of : {X : Type 0} (p : X → Bool) (xs : List X) → list_any p xs ≡ false → AllByRecursion (λ x. p x ≡ false) xs
none_of p [] h = tt
none_of p (x ∷ xs) h = by_test (p x) refl h (none_of p xs)
  where
    by_test : (b : Bool) → p x ≡ b → (b || list_any p xs) ≡ false → (list_any p xs ≡ false → AllByRecursion (λ x. p x ≡ false) xs) → (p x ≡ false) × AllByRecursion (λ x. p x ≡ false) xs
    by_test true is h more = cc
    by_test false is h more = (is, more h)

-- ---- apart

apart-filter : (p : Emission → Bool) (ms : List Emission) → IsApart ms → IsApart (filter p ms)
apart-filter p [] apart = tt
apart-filter p (m ∷ ms) apart = by_test (p m) (apart-filter p ms apart.1)
  where
    by_test : (b : Bool) → IsApart (filter p ms) → IsApart (cond b (m ∷ filter p ms) (filter p ms))
    by_test true rest = (all-filter _ p ms apart.0, rest)
    by_test false rest = rest

apart-end : (ms : List Emission) (m : Emission) → IsApart ms → AllByRecursion (λ x. has_key m.item.key x.item ≡ false) ms → IsApart (ms ++ m ∷ [])
apart-end [] m apart none = (tt, tt)
apart-end (x ∷ ms) m apart none = (all-end _ ms m apart.0 none.0, apart-end ms m apart.1 none.1)

-- no other has the key of one that is found
others_apart :
    (ticket : ℕ) (ms : List Emission) (m : Emission) → IsApart ms → find (λ x. x.ticket == ticket) ms ≡ Some m
    → AllByRecursion (λ x. has_key x.item.key m.item ≡ false) (filter (λ x. not (ticket == x.ticket)) ms)
others_apart ticket [] m apart is = tt
others_apart ticket (x ∷ ms) m apart is = by_test (x.ticket == ticket) refl is (others_apart ticket ms m apart.1)
  where
    same_test : (b : Bool) → (x.ticket == ticket) ≡ b → (ticket == x.ticket) ≡ b
    same_test true h = (Decides-eqb ticket x.ticket).1 (sym ((Decides-eqb x.ticket ticket).0 h))
    same_test false h = no (ticket == x.ticket) refl
      where
        no : (c : Bool) → (ticket == x.ticket) ≡ c → (ticket == x.ticket) ≡ false
        no true k = let both : (x.ticket == ticket) ≡ true = (Decides-eqb x.ticket ticket).1 (sym ((Decides-eqb ticket x.ticket).0 k)) in cc
        no false k = k

    by_test :
        (b : Bool) → (x.ticket == ticket) ≡ b → cond b (Some x) (find (λ x. x.ticket == ticket) ms) ≡ Some m
        → (find (λ x. x.ticket == ticket) ms ≡ Some m → AllByRecursion (λ y. has_key y.item.key m.item ≡ false) (filter (λ y. not (ticket == y.ticket)) ms))
        → AllByRecursion (λ y. has_key y.item.key m.item ≡ false) (filter (λ y. not (ticket == y.ticket)) (x ∷ ms))
    by_test true h is more =
        let same : x ≡ m = cc in
        subst (AllByRecursion (λ y. has_key y.item.key m.item ≡ false)) (ap (λ b. cond (not b) (x ∷ filter (λ y. not (ticket == y.ticket)) ms) (filter (λ y. not (ticket == y.ticket)) ms)) (sym (same_test true h)))
        (subst (λ m. AllByRecursion (λ y. has_key y.item.key m.item ≡ false) (filter (λ y. not (ticket == y.ticket)) ms)) same (all-filter _ (λ y. not (ticket == y.ticket)) ms apart.0))
    by_test false h is more =
        subst (AllByRecursion (λ y. has_key y.item.key m.item ≡ false)) (ap (λ b. cond (not b) (x ∷ filter (λ y. not (ticket == y.ticket)) ms) (filter (λ y. not (ticket == y.ticket)) ms)) (sym (same_test false h)))
        (bytes_laws.symm m.item.key x.item.key ∙ (found (λ y. has_key y.item.key x.item ≡ false) (λ y. y.ticket == ticket) ms m apart.0 is).0, more is)

-- ---- one event more

-- an event that may stand adds no key that waits, unless it finishes it
adds_avoid :
    (h : History) (e : Event) (key : List ℕ) → AddsFit h e → is_waiting (place_of h key) ≡ true → place_by_finish key (finish_of e) ≡ None
    → list_any (has_key key) (adds_of e) ≡ false
adds_avoid h e key fit waits unfinished = by_any (list_any (has_key key) (adds_of e)) refl
  where
    waiting : (item : Item) (earlier : List Item) → has_key key item ≡ true → is_waiting (place_at_add h e earlier item.key) ≡ true
    waiting item earlier is =
        subst (λ k. is_waiting (place_at_add h e earlier k) ≡ true) (sym ((bytes_eq-Decides item.key key).0 is)) (by_earlier (list_any (has_key key) earlier))
      where
        by_earlier : (b : Bool) → is_waiting (if b then Waiting else unwrap_or (place_by_finish key (finish_of e)) (place_of h key)) ≡ true
        by_earlier true = refl
        by_earlier false = ap (λ o. is_waiting (unwrap_or o (place_of h key))) unfinished ∙ waits

    by_any : (b : Bool) → list_any (has_key key) (adds_of e) ≡ b → list_any (has_key key) (adds_of e) ≡ false
    by_any true h =
        let split = some_split (has_key key) (adds_of e) h in
        let one = waiting split.1 split.0 split.4 in
        let other = fit split.0 split.2 split.1 split.3 in
        cc
    by_any false h = h

last-adds_from : (key : List ℕ) (n : ℕ) (xs : List Item) → last_of (λ a. item_at key a.item) (adds_from n xs) ≡ last_of (item_at key) xs
last-adds_from key n [] = refl
last-adds_from key n (x ∷ xs) = ap (λ o. option_or o (item_at key x)) (last-adds_from key (n + 1) xs)

none_last : (key : List ℕ) (xs : List Item) → list_any (has_key key) xs ≡ false → last_of (item_at key) xs ≡ None
none_last key [] h = refl
none_last key (x ∷ xs) h = by_test (has_key key x) h (none_last key xs)
  where
    by_test :
        (b : Bool) → (b || list_any (has_key key) xs) ≡ false → (list_any (has_key key) xs ≡ false → last_of (item_at key) xs ≡ None)
        → option_or (last_of (item_at key) xs) (if b then Some x else None) ≡ None
    by_test true h more = cc
    by_test false h more = ap (λ o. option_or o None) (more h)

-- where an event adds no such key, the last add of it is the same
same_last : (h : History) (e : Event) (key : List ℕ) → list_any (has_key key) (adds_of e) ≡ false → last_added (with_event h e) key ≡ last_added h key
same_last h e key none =
    ap (last_of (λ a. item_at key a.item)) (all_adds-with_event h e)
    ∙ last_of-append (λ a. item_at key a.item) (all_adds h) (adds_from (ordinal_count h + 1) (adds_of e))
    ∙ ap (λ o. option_or o (last_added h key)) (last-adds_from key (ordinal_count h + 1) (adds_of e) ∙ none_last key (adds_of e) none)

still_out : (h : History) (e : Event) (m : Emission) → AddsFit h e → place_by_finish m.item.key (finish_of e) ≡ None → OutStands h m → OutStands (with_event h e) m
still_out h e m fit unfinished is =
    let none = adds_avoid h e m.item.key fit is.waits unfinished in
    record {
      waits = ap is_waiting (place_of-with_event h e m.item.key)
          ∙ ap (λ b. is_waiting (unwrap_or (if b then Some Waiting else place_by_finish m.item.key (finish_of e)) (place_of h m.item.key))) none
          ∙ ap (λ o. is_waiting (unwrap_or o (place_of h m.item.key))) unfinished ∙ is.waits;
      added = same_last h e m.item.key none ∙ is.added;
    }

-- the outs after an event that begins no session, where it finishes none of those that stay
outs_stay :
    (h : History) (e : Event) (ms : List Emission) → AddsFit h e → AllByRecursion (λ m. place_by_finish m.item.key (finish_of e) ≡ None) ms
    → AllByRecursion (OutStands h) ms → AllByRecursion (OutStands (with_event h e)) ms
outs_stay h e ms fit unfinished all = all-with _ _ (λ m both. still_out h e m fit both.1 both.0) ms (all-both _ _ ms all unfinished)

anything : {X : Type 0} (P : X → Type 0) → ((x : X) → P x) → (xs : List X) → AllByRecursion P xs
anything P each [] = tt
anything P each (x ∷ xs) = (each x, anything P each xs)

not_or : (b : Bool) → not (b || false) ≡ not b
not_or true = refl
not_or false = refl

apart_from : (item : Item) (end : End) (key : List ℕ) → has_key key item ≡ false → (if has_key key item then Some (place_after end.outcome end) else None) ≡ None
apart_from item end key none = ap (λ b. if b then Some (place_after end.outcome end) else None) none

-- all that are out after one event more
pub outs_after : (h : History) (e : Event) → Fits h e → OutsStand h → OutsStand (with_event h e)
outs_after h (Session time job format) fits is = subst (Outs _) (sym (emits_out-with_event h (Session time job format))) (record { each = tt; apart = tt })
outs_after h (Seeds time list adds) fits is =
    subst (Outs _) (sym (emits_out-with_event h (Seeds time list adds) ∙ append-nil _ ∙ filter-true (λ m. not (ends_emit None m)) (λ m. refl) (emits_out h)))
    (record { each = outs_stay h (Seeds time list adds) (emits_out h) fits.adds (anything _ (λ m. refl) (emits_out h)) is.each; apart = is.apart })
outs_after h (Emit time caller ticket verdict item) fits is =
    subst (Outs _)
    (sym (emits_out-with_event h e ∙ ap (λ ms. ms ++ out_by h (Some own)) (filter-true (λ m. not (ends_emit None m)) (λ m. refl) (emits_out h))))
    (by_test (not (is_ended (session_finishes h) own)))
  where
    e : Event
    e = Emit time caller ticket verdict item

    own : Emission
    own = record { time = time; caller = caller; ticket = ticket; verdict = verdict; item = item }

    may : EmitFits h ticket item
    may = fits.kind

    stay : AllByRecursion (OutStands (with_event h e)) (emits_out h)
    stay = outs_stay h e (emits_out h) fits.adds (anything _ (λ m. refl) (emits_out h)) is.each

    by_test : (b : Bool) → Outs (with_event h e) (emits_out h ++ cond b (own ∷ []) [])
    by_test true = record {
      each = all-end _ (emits_out h) own stay (still_out h e own fits.adds refl (record { waits = may.waits; added = may.added }));
      apart = apart-end (emits_out h) own is.apart (none_of _ (emits_out h) may.idle);
    }
    by_test false = subst (Outs (with_event h e)) (sym (append-nil (emits_out h))) (record { each = stay; apart = is.apart })
outs_after h (Finish time caller ticket item end adds) fits is =
    subst (Outs _)
    (sym (emits_out-with_event h e ∙ append-nil _ ∙ filter-like _ (λ m. not (ticket == m.ticket)) (λ m. not_or (ticket == m.ticket)) (emits_out h)))
    (by_found (emit_out h ticket) refl may.out)
  where
    e : Event
    e = Finish time caller ticket item end adds

    may : FinishFits h ticket item
    may = fits.kind

    by_found :
        (o : Option Emission) → emit_out h ticket ≡ o → option_map (λ m. m.item) o ≡ Some item
        → Outs (with_event h e) (filter (λ m. not (ticket == m.ticket)) (emits_out h))
    by_found None found same = cc
    by_found (Some m) found same =
        let of_item : m.item ≡ item = cc in
        record {
          each =
              outs_stay h e _ fits.adds
              (all-with _ _ (λ x apart. apart_from item end x.item.key (ap (has_key x.item.key) (sym of_item) ∙ apart)) _ (others_apart ticket (emits_out h) m is.apart found))
              (all-filter _ (λ m. not (ticket == m.ticket)) (emits_out h) is.each);
          apart = apart-filter (λ m. not (ticket == m.ticket)) (emits_out h) is.apart;
        }

-- where nothing of the class is out, nothing is out under the key that was last added with an item of it
pub none_under : (h : History) (item : Item) → OutsStand h → last_added h item.key ≡ Some item → is_out h item.class ≡ false → list_any (λ m. has_key item.key m.item) (emits_out h) ≡ false
none_under h item outs added idle = by_each (emits_out h) outs.each idle
  where
    by_each : (ms : List Emission) → AllByRecursion (OutStands h) ms → list_any (λ m. in_class item.class m.item) ms ≡ false → list_any (λ m. has_key item.key m.item) ms ≡ false
    by_each [] all none = refl
    by_each (m ∷ ms) all none = by_key (has_key item.key m.item) refl (by_each ms all.1 (later (in_class item.class m.item) _ none))
      where
        later : (b c : Bool) → (b || c) ≡ false → c ≡ false
        later true c h = cc
        later false c h = h

        by_key : (b : Bool) → has_key item.key m.item ≡ b → list_any (λ m. has_key item.key m.item) ms ≡ false → (b || list_any (λ m. has_key item.key m.item) ms) ≡ false
        by_key false is rest = rest
        by_key true is rest =
            let key : m.item.key ≡ item.key = (bytes_eq-Decides m.item.key item.key).0 is in
            let both : Some m.item ≡ Some item = sym all.0.added ∙ ap (last_added h) key ∙ added in
            let same : m.item ≡ item = cc in
            let clash : true ≡ false = sym (ap (λ b. b || list_any (λ m. in_class item.class m.item) ms) (ap (λ (i : Item). in_class item.class i) same ∙ (bytes_eq-Decides item.class item.class).1 refl)) ∙ none in
            cc
