-- Of what is kept, what goes first of what may go.
use Rattle.std.proofs.Common.{◌≡◌, ℕ, inl, inr, Bool, true, false, List, [], ◌∷◌, ◌++◌, refl, sym, ◌∙◌, ap, ap₂, subst, Option, Some, None, Contains}
use Rattle.std.specs.Prelude.{IfSome, if◌then◌else◌}
use Rattle.std.specs.List.{AllByRecursion}
use Rattle.std.specs.Ordering.{nat_cmp, is_lt, ordering_then}
use Rattle.std.specs.Cmp.{tied_itself}
use Rattle.std.specs.Cmp.Lexicographic.{slice_cmp}
use Rattle.std.specs.BTreeMap.{IsOrdered, values}
use Rattle.std.specs.declared.cmp.Ordering.{Ordering}
use Rattle.std.specs.declared.cmp.Ordering.TheVariants.{Less, Equal, Greater}
use Rattle.crawl_kinds.specs.declared.settings.Settings.{Settings}
use Rattle.crawl_history.specs.History.{History}
use Rattle.crawl_history.specs.Places.{is_waiting}
use Rattle.crawl_history.specs.Queues.{Add, waiting_adds}
use Rattle.emission_laws.specs.Choice.{OrdinalsRise, may_go, going_order, goes_first, GoesNext, NoneMayGo}
use Rattle.emission_laws.proofs.Members.{Among, from_contains, to_contains, all_among}
use Rattle.emission_laws.proofs.Order.{order}
use Rattle.emission_laws.proofs.Waiting.{waits-where}
use Rattle.frontier_core.specs.Choosing.{chosen_add, choice_order, first_of_two, IsFirst, IsLeast, IsCandidate}
use Rattle.frontier_core.specs.Kept.{add_in}
use Rattle.frontier_core.specs.declared.choosing.Choice.{Choice}
use Rattle.frontier_core.proofs.Kept.{kept_waiting, own_known, value_here}
use Rattle.frontier_memo.specs.Keeping.{known_at, add_of}
use Rattle.frontier_memo.specs.Memory.{Tells, Remembers}
use Rattle.frontier_memo.specs.declared.known.Known.{Known}
use Rattle.frontier_memo.specs.declared.known.Known.TheVariants as known
use Rattle.frontier_memo.specs.declared.known.Waiting.{Waiting}
use Rattle.frontier_memo.specs.declared.memo.Memo.{Memo}
use Rattle.frontier_memo.proofs.Keeping.{all-push}
use Rattle.frontier_memo.proofs.Lists.{all-weaker}

among-last : {X : Type 0} (xs : List X) (x : X) → Among (xs ++ x ∷ []) x
among-last [] x = inl refl
among-last (y ∷ ys) x = inr (among-last ys x)

among-before : {X : Type 0} (xs ys : List X) (z : X) → Among xs z → Among (xs ++ ys) z
among-before [] ys z h = absurd h
among-before (y ∷ xs) ys z (inl same) = inl same
among-before (y ∷ xs) ys z (inr rest) = inr (among-before xs ys z rest)

contains-last : {X : Type 0} (xs : List X) (x z : X) → x ≡ z → Contains (xs ++ x ∷ []) z
contains-last xs x z same = to_contains (xs ++ x ∷ []) z (subst (Among (xs ++ x ∷ [])) same (among-last xs x))

contains-before : {X : Type 0} (xs ys : List X) (z : X) → Contains xs z → Contains (xs ++ ys) z
contains-before xs ys z h = to_contains (xs ++ ys) z (among-before xs ys z (from_contains xs z h))

-- what holds of an add that is kept
if_add : (P Q : Add → Type 0) → ((y : Add) → P y → Q y) → (k : Known) → IfSome (add_in k) P → IfSome (add_in k) Q
if_add P Q f (known.Waits w) p = f (add_of w) p
if_add P Q f (known.Done code) p = tt

module _ (s : Settings) (wakes : List ℕ → ℕ) (h : History) where
  choices_order : (x y : Choice) → x.wake ≡ wakes x.own.now.item.class → y.wake ≡ wakes y.own.now.item.class → choice_order x y ≡ going_order wakes (chosen_add x) (chosen_add y)
  choices_order x y one other = ap₂ (λ m n. ordering_then (nat_cmp m n) (going_order (λ _. 0) (chosen_add x) (chosen_add y))) one other

  -- what does not go before b goes before nothing that b's earlier one goes before
  later_still : (y b n : Add) → goes_first wakes y b ≡ false → is_lt (going_order wakes n b) ≡ true → goes_first wakes y n ≡ false
  later_still y b n not_before before = by_order (going_order wakes y n) refl
    where
      is_less : (r : Ordering) → is_lt r ≡ true → r ≡ Less
      is_less Less e = refl
      is_less Equal e = cc
      is_less Greater e = cc

      by_order : (r : Ordering) → going_order wakes y n ≡ r → is_lt r ≡ false
      by_order Equal e = refl
      by_order Greater e = refl
      by_order Less e =
          let before_b : going_order wakes y b ≡ Less = (order wakes).trans y n b e (is_less (going_order wakes n b) before) in
          let clash : true ≡ false = sym (ap is_lt before_b) ∙ not_before in cc

  not_itself : (y x : Add) → y ≡ x → goes_first wakes y x ≡ false
  not_itself y x same = ap (λ y. goes_first wakes y x) same ∙ ap is_lt (tied_itself (order wakes) x)

  -- where none may go, none that may goes before anything
  none_before : (x : Add) (kept : List Known) → AllByRecursion (λ k. IfSome (add_in k) (λ y. may_go s h y ≡ false)) kept → AllByRecursion (λ k. IfSome (add_in k) (λ y. may_go s h y ≡ true → goes_first wakes y x ≡ false)) kept
  none_before x kept all =
      all-weaker (λ k. IfSome (add_in k) (λ y. may_go s h y ≡ false)) (λ k. IfSome (add_in k) (λ y. may_go s h y ≡ true → goes_first wakes y x ≡ false))
      (λ k. if_add (λ y. may_go s h y ≡ false) (λ y. may_go s h y ≡ true → goes_first wakes y x ≡ false) (λ y none may. let clash : true ≡ false = sym may ∙ none in cc) k) kept all

  -- the least of one more
  pub least_more : (kept : List Known) (k : Known) (best next : Option Choice) → IsLeast s wakes h kept best → IsCandidate s wakes h k next → IsLeast s wakes h (kept ++ k ∷ []) (first_of_two best next)
  least_more kept (known.Done code) None None is may = all-push (λ k. IfSome (add_in k) (λ y. may_go s h y ≡ false)) kept (known.Done code) is tt
  least_more kept (known.Done code) (Some b) None is may =
      record {
        one = contains-before kept (known.Done code ∷ []) (known.Waits b.own.now) is.one;
        may = is.may;
        wake = is.wake;
        first = all-push (λ k. IfSome (add_in k) (λ y. may_go s h y ≡ true → goes_first wakes y (chosen_add b) ≡ false)) kept (known.Done code) is.first tt;
      }
  least_more kept (known.Done code) best (Some n) is may = absurd may
  least_more kept (known.Waits w) None None is none = all-push (λ k. IfSome (add_in k) (λ y. may_go s h y ≡ false)) kept (known.Waits w) is none
  least_more kept (known.Waits w) (Some b) None is none =
      record {
        one = contains-before kept (known.Waits w ∷ []) (known.Waits b.own.now) is.one;
        may = is.may;
        wake = is.wake;
        first = all-push (λ k. IfSome (add_in k) (λ y. may_go s h y ≡ true → goes_first wakes y (chosen_add b) ≡ false)) kept (known.Waits w) is.first
            (λ may. let clash : true ≡ false = sym may ∙ none in cc);
      }
  least_more kept (known.Waits w) None (Some n) is may =
      record {
        one = contains-last kept (known.Waits w) (known.Waits n.own.now) (ap known.Waits (sym may.0));
        may = ap (λ w. may_go s h (add_of w)) may.0 ∙ may.1;
        wake = may.2 ∙ ap (λ (w : Waiting). wakes w.item.class) (sym may.0);
        first = all-push (λ k. IfSome (add_in k) (λ y. may_go s h y ≡ true → goes_first wakes y (chosen_add n) ≡ false)) kept (known.Waits w) (none_before (chosen_add n) kept is)
            (λ _. not_itself (add_of w) (chosen_add n) (ap add_of (sym may.0)));
      }
  least_more kept (known.Waits w) (Some b) (Some n) is may = by_order (is_lt (choice_order n b)) refl
    where
      wake_n : n.wake ≡ wakes n.own.now.item.class
      wake_n = may.2 ∙ ap (λ (w : Waiting). wakes w.item.class) (sym may.0)

      same_order : choice_order n b ≡ going_order wakes (chosen_add n) (chosen_add b)
      same_order = choices_order n b wake_n is.wake

      by_order : (c : Bool) → is_lt (choice_order n b) ≡ c → IsLeast s wakes h (kept ++ known.Waits w ∷ []) (if c then Some n else Some b)
      by_order true e =
          record {
            one = contains-last kept (known.Waits w) (known.Waits n.own.now) (ap known.Waits (sym may.0));
            may = ap (λ w. may_go s h (add_of w)) may.0 ∙ may.1;
            wake = wake_n;
            first = all-push (λ k. IfSome (add_in k) (λ y. may_go s h y ≡ true → goes_first wakes y (chosen_add n) ≡ false)) kept (known.Waits w)
                (all-weaker (λ k. IfSome (add_in k) (λ y. may_go s h y ≡ true → goes_first wakes y (chosen_add b) ≡ false)) (λ k. IfSome (add_in k) (λ y. may_go s h y ≡ true → goes_first wakes y (chosen_add n) ≡ false))
                (λ k. if_add (λ y. may_go s h y ≡ true → goes_first wakes y (chosen_add b) ≡ false) (λ y. may_go s h y ≡ true → goes_first wakes y (chosen_add n) ≡ false)
                (λ y behind go. later_still y (chosen_add b) (chosen_add n) (behind go) (ap is_lt (sym same_order) ∙ e)) k) kept is.first)
                (λ _. not_itself (add_of w) (chosen_add n) (ap add_of (sym may.0)));
          }
      by_order false e =
          record {
            one = contains-before kept (known.Waits w ∷ []) (known.Waits b.own.now) is.one;
            may = is.may;
            wake = is.wake;
            first = all-push (λ k. IfSome (add_in k) (λ y. may_go s h y ≡ true → goes_first wakes y (chosen_add b) ≡ false)) kept (known.Waits w) is.first
                (λ _. ap (λ w. goes_first wakes (add_of w) (chosen_add b)) (sym may.0) ∙ ap is_lt (sym same_order) ∙ e);
          }

-- ---- what goes first of all that is kept goes next

module _ (s : Settings) (wakes : List ℕ → ℕ) (h : History) (memo : Memo) (is : Remembers h memo) (ordered : IsOrdered (slice_cmp nat_cmp) memo.places) (rise : OrdinalsRise h) where
  -- what waits by the history is kept
  kept_of : (y : Add) → Contains (waiting_adds h) y → (w : Waiting) × Among (values memo.places) (known.Waits w) × (add_of w ≡ y)
  kept_of y contains =
      let both = (waits-where h y rise).0 contains in
      let found = kept_waiting h y.item.key y (known_at memo.places y.item.key) (is.places y.item.key) both.0 both.1 in
      (found.0, value_here memo y.item.key (known.Waits found.0) found.1, found.2)

  pub goes_next : (choice : Choice) → IsFirst s wakes h (values memo.places) choice → GoesNext s wakes h (chosen_add choice)
  goes_next choice first =
      let own = own_known h memo is ordered choice.own.now (from_contains (values memo.places) (known.Waits choice.own.now) first.one) in
      let tells : Tells h choice.own.now.item.key (Some (known.Waits choice.own.now)) = subst (Tells h choice.own.now.item.key) own (is.places choice.own.now.item.key) in
      record {
        waits = (waits-where h (chosen_add choice) rise).1 (ap is_waiting (sym tells.place), tells.waiting.add);
        may = first.may;
        first = λ y contains may.
            let found = kept_of y contains in
            let behind : may_go s h (add_of found.0) ≡ true → goes_first wakes (add_of found.0) (chosen_add choice) ≡ false =
            all_among (λ k. IfSome (add_in k) (λ y. may_go s h y ≡ true → goes_first wakes y (chosen_add choice) ≡ false)) (values memo.places) (known.Waits found.0) first.first found.1 in
            ap (λ y. goes_first wakes y (chosen_add choice)) (sym found.2) ∙ behind (ap (may_go s h) found.2 ∙ may);
      }

  pub none_goes : AllByRecursion (λ k. IfSome (add_in k) (λ y. may_go s h y ≡ false)) (values memo.places) → NoneMayGo s h
  none_goes none y contains =
      let found = kept_of y contains in
      ap (may_go s h) (sym found.2) ∙ all_among (λ k. IfSome (add_in k) (λ y. may_go s h y ≡ false)) (values memo.places) (known.Waits found.0) none found.1

-- whatever says the same wakes
pub same_wakes : (s : Settings) (v w : List ℕ → ℕ) (h : History) (x : Add) → ((class : List ℕ) → v class ≡ w class) → GoesNext s v h x → GoesNext s w h x
same_wakes s v w h x same next =
    record {
      waits = next.waits;
      may = next.may;
      first = λ y contains may.
          ap₂ (λ m n. is_lt (ordering_then (nat_cmp m n) (going_order (λ _. 0) y x))) (sym (same y.item.class)) (sym (same x.item.class)) ∙ next.first y contains may;
    }
