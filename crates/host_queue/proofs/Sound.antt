-- What each call leaves inside the queue.
use Rattle.std.proofs.Common.{◌≡◌, ◌≢◌, ℕ, ◌<◌, List, [], ◌∷◌, length, Option, Some, None, Less, sym, ap, subst, ◌∙◌}
use Rattle.std.specs.Option.{IfSome}
use Rattle.std.specs.List.Sorted.{IsStrictlySortedBy}
use Rattle.std.specs.Cmp.{tied_itself}
use Rattle.std.proofs.lemmas.List.Elements.{All-cons, All-from_recursion, All-weaker}
use Rattle.std.proofs.lemmas.List.Sorted.{All-permutation}
use Rattle.std.proofs.lemmas.Map.Keys.{sorted_head, sorted_tail}
use Rattle.host_queue.specs.Queue.{Entry, place, compare, IsInOrder, IsPut}
use Rattle.host_queue.specs.Inside.{IsOut, IsSound}
use Rattle.host_queue.proofs.Order.{order, order_total}

-- the empty queue
empty_in_order : IsInOrder []
unfolding IsStrictlySortedBy
empty_in_order = tt

pub sound_new : (xs : List Entry) (n : ℕ) → xs ≡ [] → IsSound xs n None
sound_new xs n none =
    subst (λ (l : List Entry). IsSound l n None) (sym none) (record { ordered = empty_in_order; out = tt })

-- an entry that comes behind another stands elsewhere
elsewhere : (e x : Entry) → order e x ≡ Less → place x ≢ place e
elsewhere e x less same =
    absurd (cc (sym less ∙ ap (λ p. compare (place e) p) same ∙ tied_itself order_total e))

-- the queue without its first entry, which is out
pub sound_taken : (e : Entry) (old new : List Entry) (capacity : ℕ) → IsInOrder old → old ≡ e ∷ new → length new < capacity → IsSound new capacity (Some (place e))
sound_taken e old new capacity sorted is room =
    let first : IsInOrder (e ∷ new) = subst IsInOrder is sorted in
    record {
      ordered = sorted_tail order e new first;
      out = record {
        room = room;
        apart = All-weaker _ _ (elsewhere e) new (All-from_recursion _ new (sorted_head order e new first));
      };
    }

-- the queue with one entry more, where the one that is out has another ordinal
pub sound_put : (e : Entry) (old new : List Entry) (less more : ℕ) (taken : Option (ℕ × ℕ)) → IsPut e old new → IfSome taken (IsOut old less) → IfSome taken (λ at. at.1 ≢ e.1) → length new < more → IsSound new more taken
sound_put e old new less more None put out apart room = record { ordered = put.ordered; out = tt }
sound_put e old new less more (Some at) put out apart room =
    let other : place e ≢ at = λ same. apart (ap (λ p. p.1) (sym same)) in
    record {
      ordered = put.ordered;
      out = record {
        room = room;
        apart = All-permutation (λ x. place x ≢ at) (e ∷ old) new put.same (All-cons (λ x. place x ≢ at) e old other out.apart);
      };
    }
