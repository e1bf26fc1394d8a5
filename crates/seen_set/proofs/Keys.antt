-- What an ordered list of keys says of the set that it makes.
use Rattle.std.proofs.Common.{◌≡◌, ℕ, ◌+◌, Bool, true, false, cond, ◌||◌, List, [], ◌∷◌, length, sym, ap, ◌∙◌, refl, arith, Ordering}
use Rattle.std.specs.Ordering.{eq_by_cmp, nat_cmp}
use Rattle.std.specs.Cmp.Lexicographic.{slice_cmp}
use Rattle.std.specs.List.{list_any}
use Rattle.std.specs.List.Sorted.{IsStrictlySortedBy}
use Rattle.std.specs.BTreeMap.{is_at}
use Rattle.std.specs.FinSet as set
use Rattle.std.proofs.lemmas.Cmp.{nat_list_cmp_total, eq_by_cmp_equiv}
use Rattle.std.proofs.lemmas.List.Folds.{list_any_none}
use Rattle.std.proofs.lemmas.List.Elements.{All-from_recursion}
use Rattle.std.proofs.lemmas.Map.Keys.{IsDistinct-from_sorted, IsDistinct-head, sorted_tail}

-- keys in byte order
abbrev pub order : List ℕ → List ℕ → Ordering
order = slice_cmp nat_cmp

-- whether it has a key
pub contains_is : (keys : List (List ℕ)) (key : List ℕ) → set.contains (set.from_list {R = order} keys) key ≡ list_any (is_at (order key)) keys
contains_is keys key = set.contains-from_list nat_list_cmp_total keys key

or_is : (a b : Bool) → cond a true b ≡ (a || b)
or_is true b = refl
or_is false b = refl

-- with one key more
pub insert_is : (old new : List (List ℕ)) (key : List ℕ) → ((q : List ℕ) → list_any (is_at (order q)) new ≡ cond (is_at (order key) q) true (list_any (is_at (order q)) old)) → set.from_list {R = order} new ≡ set.insert (set.from_list old) key
insert_is old new key updates =
    let o = nat_list_cmp_total in
    set.same_set o (set.slice_cmp-IsAntisymmetric set.nat_cmp-IsAntisymmetric) _ _ (λ q.
    contains_is new q
    ∙ updates q
    ∙ or_is (is_at (order key) q) _
    ∙ ap (λ b. b || list_any (is_at (order q)) old) ((eq_by_cmp_equiv o).symm key q)
    ∙ ap (λ b. eq_by_cmp order q key || b) (sym (contains_is old q))
    ∙ sym (set.contains-insert o (set.from_list old) key q))

-- a key that is below all of these is none of them
head_is_new : (key : List ℕ) (keys : List (List ℕ)) → IsStrictlySortedBy order (key ∷ keys) → list_any (is_at (order key)) keys ≡ false
head_is_new key keys sorted =
    list_any_none (is_at (order key)) keys (All-from_recursion (λ y. eq_by_cmp order key y ≡ false) keys (IsDistinct-head (eq_by_cmp order) key keys (IsDistinct-from_sorted order (key ∷ keys) sorted)))

-- how many keys it has
pub len_is : (keys : List (List ℕ)) → IsStrictlySortedBy order keys → set.len (set.from_list {R = order} keys) ≡ length keys
len_is [] sorted = set.len-empty order
len_is (key ∷ keys) sorted =
    set.len-insert nat_list_cmp_total (set.from_list keys) key
    ∙ ap (λ b. cond b (set.len (set.from_list {R = order} keys)) (set.len (set.from_list {R = order} keys) + 1)) (contains_is keys key ∙ head_is_new key keys sorted)
    ∙ ap (λ n. n + 1) (len_is keys (sorted_tail order key keys sorted))
    ∙ omega arith
