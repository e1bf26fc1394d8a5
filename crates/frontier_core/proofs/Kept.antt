-- The adds that are kept as waiting are those that wait.
use Rattle.std.proofs.Common.{◌≡◌, ℕ, ◌<◌, ◌↔◌, ◌⊎◌, inl, inr, Bool, true, false, List, [], ◌∷◌, map, refl, sym, ◌∙◌, ap, subst, arith, Option, Some, None, Contains}
use Rattle.std.specs.Prelude.{filter_map, if◌then◌else◌}
use Rattle.std.specs.List.{IsDistinct, cons_option}
use Rattle.std.specs.Option.{option_or}
use Rattle.std.specs.Ordering.{nat_cmp, eq_by_cmp}
use Rattle.std.specs.Cmp.{IsEquivalence, eq_by_cmp_equiv}
use Rattle.std.specs.Cmp.Lexicographic.{slice_cmp}
use Rattle.std.specs.Map.{keys_of}
use Rattle.std.specs.BTreeMap.{IsOrdered, values}
use Rattle.std.specs.List.Sorted.{IsPermutation}
use Rattle.std.proofs.lemmas.Cmp.{nat_list_cmp_total}
use Rattle.std.proofs.lemmas.List.Sorted.{IsPermutation-trans}
use Rattle.std.proofs.lemmas.Map.Keys.{IsDistinct-from_sorted, IsDistinct-head, IsDistinct-tail}
use Rattle.std.proofs.lemmas.Map.Text.{is_eq-slice_cmp}
use Rattle.std.proofs.lemmas.Map.Views.{Contains-from_lookup, lookup-from_Contains}
use Rattle.std.proofs.lemmas.Slice.Eq.{bytes_eq-Decides}
use Rattle.crawl_kinds.specs.declared.event.Place.TheVariants as place
use Rattle.crawl_kinds.specs.declared.event.Event.{Event}
use Rattle.crawl_kinds.specs.declared.item.Item.{Item}
use Rattle.crawl_history.specs.History.{History, history_of}
use Rattle.crawl_history.specs.Places.{place_of, is_waiting, has_key}
use Rattle.crawl_history.specs.Queues.{Add, all_adds, is_waiting_add, waiting_adds}
use Rattle.crawl_history.specs.Scans.{last_of}
use Rattle.emission_laws.specs.Choice.{OrdinalsRise}
use Rattle.emission_laws.proofs.Choosing.{Rising, rising-filter}
use Rattle.emission_laws.proofs.Members.{Among, from_contains, to_contains, among-map, from-map, all_among}
use Rattle.emission_laws.proofs.Waiting.{ordinals-rise, rising, waits-where}
use Rattle.frontier_core.specs.Kept.{add_in, kept_adds, IsQueued}
use Rattle.frontier_core.specs.Waiting.{IsWaitingList}
use Rattle.frontier_core.proofs.Ordering.{strictly_sorted}
use Rattle.frontier_core.proofs.Permuting.{Apart, same_elements}
use Rattle.frontier_memo.specs.declared.known.Known.{Known}
use Rattle.frontier_memo.specs.declared.known.Known.TheVariants as known
use Rattle.frontier_memo.specs.declared.known.Waiting.{Waiting}
use Rattle.frontier_memo.specs.declared.memo.Memo.{Memo}
use Rattle.frontier_memo.specs.Keeping.{known_at, add_at, add_of}
use Rattle.frontier_memo.specs.Memory.{last_add, Tells, Remembers}

-- ---- lists

among-filter_map : {X Y : Type 0} (f : X → Option Y) (xs : List X) (x : X) (y : Y) → Among xs x → f x ≡ Some y → Among (filter_map f xs) y
among-filter_map f [] x y h is = h
among-filter_map {X} {Y} f (z ∷ zs) x y h is = by_value (f z) refl h (λ rest. among-filter_map f zs x y rest is)
  where
    by_value : (o : Option Y) → f z ≡ o → (z ≡ x) ⊎ Among zs x → (Among zs x → Among (filter_map f zs) y) → Among (cons_option o (filter_map f zs)) y
    by_value None e (inl same) more = let clash : None ≡ Some y = sym e ∙ ap f same ∙ is in cc
    by_value None e (inr rest) more = more rest
    by_value (Some w) e (inl same) more = let both : Some w ≡ Some y = sym e ∙ ap f same ∙ is in inl (cc)
    by_value (Some w) e (inr rest) more = inr (more rest)

-- where it comes from
pub record Source {X Y : Type 0} (f : X → Option Y) (xs : List X) (y : Y) : Type 0 where
  pub from : X
  pub among : Among xs from
  pub gives : f from ≡ Some y

from-filter_map : {X Y : Type 0} (f : X → Option Y) (xs : List X) (y : Y) → Among (filter_map f xs) y → Source f xs y
from-filter_map f [] y h = absurd h
from-filter_map {X} {Y} f (z ∷ zs) y h = by_value (f z) refl h (from-filter_map f zs y)
  where
    later : Source f zs y → Source f (z ∷ zs) y
    later s = record { from = s.from; among = inr s.among; gives = s.gives }

    by_value : (o : Option Y) → f z ≡ o → Among (cons_option o (filter_map f zs)) y → (Among (filter_map f zs) y → Source f zs y) → Source f (z ∷ zs) y
    by_value None e h more = later (more h)
    by_value (Some w) e (inl same) more = record { from = z; among = inl refl; gives = e ∙ ap Some same }
    by_value (Some w) e (inr rest) more = later (more rest)

-- ---- one add of what is kept

-- the add of what waits
from_add : (k : Known) (y : Add) → add_in k ≡ Some y → (w : Waiting) × (k ≡ known.Waits w) × (add_of w ≡ y)
from_add (known.Waits w) y e = (w, refl, cc)
from_add (known.Done code) y e = cc

-- the last add of a key has it
last_has_key : (key : List ℕ) (adds : List Add) (a : Add) → last_of (add_at key) adds ≡ Some a → a.item.key ≡ key
last_has_key key [] a e = cc
last_has_key key (x ∷ adds) a e = by_last (last_of (add_at key) adds) (has_key key x.item) refl e (last_has_key key adds a)
  where
    by_last : (o : Option Add) (b : Bool) → has_key key x.item ≡ b → option_or o (if b then Some x else None) ≡ Some a → (o ≡ Some a → a.item.key ≡ key) → a.item.key ≡ key
    by_last (Some y) b is e more = more e
    by_last None true is e more = let same : a ≡ x = cc in ap (λ (a : Add). a.item.key) same ∙ (bytes_eq-Decides x.item.key key).0 is
    by_last None false is e more = cc

-- what waits under a key has it
pub has_its_key : (h : History) (key : List ℕ) (w : Waiting) → Tells h key (Some (known.Waits w)) → w.item.key ≡ key
has_its_key h key w tells = last_has_key key (all_adds h) (add_of w) tells.waiting.add

-- what is kept of a key that waits
pub kept_waiting : (h : History) (key : List ℕ) (y : Add) (o : Option Known) → Tells h key o → is_waiting (place_of h key) ≡ true → last_add h key ≡ Some y → (w : Waiting) × (o ≡ Some (known.Waits w)) × (add_of w ≡ y)
kept_waiting h key y None tells waits last = let said : is_waiting place.Absent ≡ true = ap is_waiting tells.place ∙ waits in cc
kept_waiting h key y (Some (known.Done code)) tells waits last = let said : is_waiting (place.Done code) ≡ true = ap is_waiting tells.place ∙ waits in cc
kept_waiting h key y (Some (known.Waits w)) tells waits last = let same : Some (add_of w) ≡ Some y = sym tells.waiting.add ∙ last in (w, refl, cc)

-- ---- all adds of what is kept

by_order : IsEquivalence (eq_by_cmp (slice_cmp nat_cmp))
by_order = eq_by_cmp_equiv nat_list_cmp_total

same_text : (x y : List ℕ) → eq_by_cmp (slice_cmp nat_cmp) x y ≡ true → x ≡ y
same_text x y e = (bytes_eq-Decides x y).0 (sym (is_eq-slice_cmp x y) ∙ e)

-- ordinals that rise are apart
apart-rising : (adds : List Add) → Rising adds → Apart adds
apart-rising [] rising = tt
apart-rising (x ∷ adds) rising = (
  λ z among same.
      let above = all_among (λ (y : Add). x.ordinal < y.ordinal) adds z rising.0 among in
      let at = ap (λ (a : Add). a.ordinal) same in
      omega (arith, above, at),
  apart-rising adds rising.1,
)

-- what is kept of a key is among the values
pub value_here : (memo : Memo) (key : List ℕ) (k : Known) → known_at memo.places key ≡ Some k → Among (values memo.places) k
value_here memo key k at =
    among-map (λ (e : List ℕ × Known). e.1) memo.places.entries (key, k)
    (from_contains memo.places.entries (key, k) (Contains-from_lookup {eq = eq_by_cmp (slice_cmp nat_cmp)} same_text key k memo.places.entries at))

module _ (h : History) (memo : Memo) (is : Remembers h memo) (ordered : IsOrdered (slice_cmp nat_cmp) memo.places) where
  entry_known : (e : List ℕ × Known) → Among memo.places.entries e → known_at memo.places e.0 ≡ Some e.1
  entry_known e among = lookup-from_Contains by_order e.0 e.1 memo.places.entries (IsDistinct-from_sorted (slice_cmp nat_cmp) (keys_of memo.places.entries) ordered) (to_contains memo.places.entries e among)

  entry_tells : (e : List ℕ × Known) → Among memo.places.entries e → Tells h e.0 (Some e.1)
  entry_tells e among = subst (Tells h e.0) (entry_known e among) (is.places e.0)

  -- what waits is among them
  pub kept_here : (key : List ℕ) (w : Waiting) → known_at memo.places key ≡ Some (known.Waits w) → Among (kept_adds memo.places) (add_of w)
  kept_here key w at = among-filter_map add_in (values memo.places) (known.Waits w) (add_of w) (value_here memo key (known.Waits w) at) refl

  -- what waits is kept of its own key
  pub own_known : (w : Waiting) → Among (values memo.places) (known.Waits w) → known_at memo.places w.item.key ≡ Some (known.Waits w)
  own_known w among =
      let entry = from-map (λ (e : List ℕ × Known). e.1) memo.places.entries (known.Waits w) among in
      let tells : Tells h entry.0.0 (Some (known.Waits w)) = subst (λ (k : Known). Tells h entry.0.0 (Some k)) entry.2 (entry_tells entry.0 entry.1) in
      ap (known_at memo.places) (has_its_key h entry.0.0 w tells) ∙ entry_known entry.0 entry.1 ∙ ap Some entry.2

  -- what is among them waits, and was added last
  pub from_kept : (y : Add) → Among (kept_adds memo.places) y → (is_waiting (place_of h y.item.key) ≡ true) × (last_add h y.item.key ≡ Some y)
  from_kept y among = by_source (from-filter_map add_in (values memo.places) y among)
    where
      by_entry : (w : Waiting) (e : List ℕ × Known) → Among memo.places.entries e → e.1 ≡ known.Waits w → add_of w ≡ y → (is_waiting (place_of h y.item.key) ≡ true) × (last_add h y.item.key ≡ Some y)
      by_entry w e here at same =
          let tells : Tells h e.0 (Some (known.Waits w)) = subst (λ (k : Known). Tells h e.0 (Some k)) at (entry_tells e here) in
          let key : y.item.key ≡ e.0 = ap (λ (a : Add). a.item.key) (sym same) ∙ has_its_key h e.0 w tells in (
            ap (λ (k : List ℕ). is_waiting (place_of h k)) key ∙ ap is_waiting (sym tells.place),
            ap (λ (k : List ℕ). last_add h k) key ∙ tells.waiting.add ∙ ap Some same,
          )

      by_source : Source add_in (values memo.places) y → (is_waiting (place_of h y.item.key) ≡ true) × (last_add h y.item.key ≡ Some y)
      by_source s =
          let entry = from-map (λ (e : List ℕ × Known). e.1) memo.places.entries s.from s.among in
          let add = from_add s.from y s.gives in
          by_entry add.0 entry.0 entry.1 (entry.2 ∙ add.1) add.2

  -- they are those that wait
  pub kept_waits : OrdinalsRise h → (y : Add) → Contains (waiting_adds h) y ↔ Among (kept_adds memo.places) y
  kept_waits rise y = (
    λ contains.
        let both = (waits-where h y rise).0 contains in
        let found = kept_waiting h y.item.key y (known_at memo.places y.item.key) (is.places y.item.key) both.0 both.1 in
        subst (Among (kept_adds memo.places)) found.2 (kept_here y.item.key found.0 found.1),
    λ among. (waits-where h y rise).1 (from_kept y among),
  )

  -- each of them stands once
  apart_entries :
      (es : List (List ℕ × Known)) → IsDistinct (eq_by_cmp (slice_cmp nat_cmp)) (keys_of es) → ((e : List ℕ × Known) → Among es e → Tells h e.0 (Some e.1))
      → Apart (filter_map add_in (map (λ e. e.1) es))
  apart_entries [] once tells = tt
  apart_entries (e ∷ es) once tells = by_known e.1 refl (apart_entries es (IsDistinct-tail (eq_by_cmp (slice_cmp nat_cmp)) e.0 (keys_of es) once) (λ f among. tells f (inr among)))
    where
      other : (w : Waiting) → e.1 ≡ known.Waits w → (z : Add) → Among (filter_map add_in (map (λ e. e.1) es)) z → add_of w ≡ z → ⊥
      other w at z among same =
          let s = from-filter_map add_in (map (λ e. e.1) es) z among in
          let entry = from-map (λ (e : List ℕ × Known). e.1) es s.from s.among in
          let add = from_add s.from z s.gives in
          let one : w.item.key ≡ e.0 = has_its_key h e.0 w (subst (λ (k : Known). Tells h e.0 (Some k)) at (tells e (inl refl))) in
          let two : add.0.item.key ≡ entry.0.0 = has_its_key h entry.0.0 add.0 (subst (λ (k : Known). Tells h entry.0.0 (Some k)) (entry.2 ∙ add.1) (tells entry.0 (inr entry.1))) in
          let keys : e.0 ≡ entry.0.0 = sym one ∙ ap (λ (a : Add). a.item.key) (same ∙ sym add.2) ∙ two in
          let apart : eq_by_cmp (slice_cmp nat_cmp) e.0 entry.0.0 ≡ false =
          all_among (λ (k : List ℕ). eq_by_cmp (slice_cmp nat_cmp) e.0 k ≡ false) (keys_of es) entry.0.0 (IsDistinct-head (eq_by_cmp (slice_cmp nat_cmp)) e.0 (keys_of es) once) (among-map (λ (e : List ℕ × Known). e.0) es entry.0 entry.1) in
          let clash : true ≡ false = sym (by_order.refl e.0) ∙ ap (eq_by_cmp (slice_cmp nat_cmp) e.0) keys ∙ apart in
          cc

      by_known : (k : Known) → e.1 ≡ k → Apart (filter_map add_in (map (λ e. e.1) es)) → Apart (cons_option (add_in k) (filter_map add_in (map (λ e. e.1) es)))
      by_known (known.Waits w) at rest = (other w at, rest)
      by_known (known.Done code) at rest = rest

  apart_kept : Apart (kept_adds memo.places)
  apart_kept = apart_entries memo.places.entries (IsDistinct-from_sorted (slice_cmp nat_cmp) (keys_of memo.places.entries) ordered) entry_tells

  -- in another order
  pub kept_same : OrdinalsRise h → IsPermutation (waiting_adds h) (kept_adds memo.places)
  kept_same rise =
      same_elements (waiting_adds h) (kept_adds memo.places) (apart-rising (waiting_adds h) (rising-filter (is_waiting_add h) (all_adds h) (rising h rise))) apart_kept
      (λ z among. (kept_waits rise z).0 (to_contains (waiting_adds h) z among)) (λ z among. from_contains (waiting_adds h) z ((kept_waits rise z).1 among))

-- in the order in which they stand
pub waiting_list : (events : List Event) (memo : Memo) (items : List Item) → Remembers (history_of events) memo → IsQueued memo.places items → IsOrdered (slice_cmp nat_cmp) memo.places → IsWaitingList (history_of events) items
waiting_list events memo items is queued ordered =
    let h = history_of events in
    let rise = ordinals-rise events in
    let same : IsPermutation (waiting_adds h) queued.adds = IsPermutation-trans (waiting_adds h) (kept_adds memo.places) queued.adds (kept_same h memo is ordered rise) queued.same in
    record {
      adds = queued.adds;
      of = queued.of;
      same = same;
      ordered = strictly_sorted (waiting_adds h) queued.adds (rising-filter (is_waiting_add h) (all_adds h) (rising h rise)) same queued.sorted;
    }
