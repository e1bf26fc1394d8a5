-- Steps of the last exchange, one after another.
use Rattle.std.proofs.Common.{◌≡◌, ◌≢◌, ℕ, zero, suc, ◌+◌, ◌-◌, ◌<◌, ◌≤◌, Bool, true, false, ◌||◌, List, [], ◌∷◌, ◌++◌, length, slice_range, take, drop, refl, sym, ap, ◌∙◌, arith, append_assoc, append-nil}
use Rattle.std.proofs.lemmas.List.{length-drop, take_all}
use Rattle.std.specs.Prelude.{nat_eq, nat_lt}
use Rattle.std.proofs.lemmas.Bool.Decides.{nat_tests}
use Rattle.std.proofs.Math.Seq.{take-add, take-append-add, take-append_seam}
use Rattle.crawl_traits.specs.declared.link.Exchange.{Exchange}
use Rattle.crawl_traits.specs.Exchanges.{taking, giving, with_last}

pub with_last-same : (f g : Exchange → Exchange) → ((e : Exchange) → f e ≡ g e) → (xs : List Exchange) → with_last f xs ≡ with_last g xs
with_last-same f g same [] = refl
with_last-same f g same (e ∷ []) = ap (λ x. x ∷ []) (same e)
with_last-same f g same (e ∷ x ∷ more) = ap (λ rest. e ∷ rest) (with_last-same f g same (x ∷ more))

pub with_last-twice : (f g : Exchange → Exchange) (xs : List Exchange) → with_last f (with_last g xs) ≡ with_last (λ e. f (g e)) xs
with_last-twice f g [] = refl
with_last-twice f g (e ∷ []) = refl
with_last-twice f g (e ∷ x ∷ []) = refl
with_last-twice f g (e ∷ x ∷ y ∷ more) = ap (λ rest. e ∷ rest) (with_last-twice f g (x ∷ y ∷ more))

pub with_last-end : (f : Exchange → Exchange) (xs : List Exchange) (e : Exchange) → with_last f (xs ++ e ∷ []) ≡ xs ++ f e ∷ []
with_last-end f [] e = refl
with_last-end f (x ∷ []) e = refl
with_last-end f (x ∷ y ∷ more) e = ap (λ rest. x ∷ rest) (with_last-end f (y ∷ more) e)

with_last-keeps : (f : Exchange → Exchange) → ((e : Exchange) → f e ≡ e) → (xs : List Exchange) → with_last f xs ≡ xs
with_last-keeps f same [] = refl
with_last-keeps f same (e ∷ []) = ap (λ x. x ∷ []) (same e)
with_last-keeps f same (e ∷ x ∷ more) = ap (λ rest. e ∷ rest) (with_last-keeps f same (x ∷ more))

pub taken_nothing : (xs : List Exchange) → with_last (taking []) xs ≡ xs
taken_nothing = with_last-keeps (taking []) (λ e. ap (λ t. record e { taken = t }) (append-nil e.taken))

pub taken_more : (a b : List ℕ) (xs : List Exchange) → with_last (taking b) (with_last (taking a) xs) ≡ with_last (taking (a ++ b)) xs
taken_more a b xs =
    with_last-twice (taking b) (taking a) xs
    ∙ with_last-same (λ e. taking b (taking a e)) (taking (a ++ b)) (λ e. ap (λ t. record e { taken = t }) (append_assoc e.taken a b)) xs

or_false : (b : Bool) → (b || false) ≡ b
or_false true = refl
or_false false = refl

or_more : (b c : Bool) → ((b || false) || c) ≡ (b || c)
or_more true c = refl
or_more false c = refl

pub given_nothing : (xs : List Exchange) → with_last (giving [] false) xs ≡ xs
given_nothing = with_last-keeps (giving [] false) (λ e. λ i. record e { given = append-nil e.given i; ended = or_false e.ended i })

pub given_more : (a b : List ℕ) (ends : Bool) (xs : List Exchange)
    → with_last (giving b ends) (with_last (giving a false) xs) ≡ with_last (giving (a ++ b) ends) xs
given_more a b ends xs =
    with_last-twice (giving b ends) (giving a false) xs
    ∙ with_last-same (λ e. giving b ends (giving a false e)) (giving (a ++ b) ends)
    (λ e. λ i. record e { given = append_assoc e.given a b i; ended = or_more e.ended ends i }) xs

-- a piece of a text more
piece : (text : List ℕ) (at n : ℕ) → take at text ++ take n (take (length text - at) (drop at text)) ≡ take (at + n) text
piece text at n =
    ap (λ x. take at text ++ take n x) (take_all (length text - at) (drop at text) (omega (arith, length-drop at text)))
    ∙ sym (take-add at n text)

pub sent_more : (text : List ℕ) (at n : ℕ) (xs ys zs : List Exchange) → ys ≡ with_last (taking (take at text)) xs
    → zs ≡ with_last (taking (take n (take (length text - at) (drop at text)))) ys → zs ≡ with_last (taking (take (at + n) text)) xs
sent_more text at n xs ys zs e1 e2 =
    let t = take n (take (length text - at) (drop at text)) in
    e2 ∙ ap (with_last (taking t)) e1 ∙ taken_more (take at text) t xs ∙ ap (λ x. with_last (taking x) xs) (piece text at n)

-- a piece of a buffer more, behind what stays
pub read_on : (old new : List ℕ) (at n : ℕ) (ends : Bool) (xs ys zs : List Exchange) → take at new ≡ take at old
    → ys ≡ with_last (giving (take at old) false) xs → zs ≡ with_last (giving (slice_range new at (at + n)) ends) ys
    → zs ≡ with_last (giving (take (at + n) new) ends) xs
read_on old new at n ends xs ys zs same e1 e2 =
    let count : at + n - at ≡ n = omega arith in
    let cut : take at old ++ slice_range new at (at + n) ≡ take (at + n) new =
    ap (λ x. x ++ slice_range new at (at + n)) (sym same) ∙ ap (λ k. take at new ++ take k (drop at new)) count ∙ sym (take-add at n new) in
    e2 ∙ ap (with_last (giving (slice_range new at (at + n)) ends)) e1 ∙ given_more (take at old) (slice_range new at (at + n)) ends xs
    ∙ ap (λ x. with_last (giving x ends) xs) cut

pub take-take : (k n : ℕ) (x : List ℕ) → k ≤ n → take k (take n x) ≡ take k x
take-take zero n x le = refl
take-take (suc k) zero x le = absurd (omega arith)
take-take (suc k) (suc n) [] le = refl
take-take (suc k) (suc n) (b ∷ x) le = ap (λ r. b ∷ r) (take-take k n x (omega arith))

-- what agrees up to a place agrees up to an earlier one
pub take_less : (a b : List ℕ) (k n : ℕ) → k ≤ n → take n a ≡ take n b → take k a ≡ take k b
take_less a b k n le same =
    let first : (x : List ℕ) → take k (take n x) ≡ take k x = λ x. take-take k n x le in
    sym (first a) ∙ ap (take k) same ∙ first b

-- a buffer whose front was written begins with it
pub grown_front : (front given items : List ℕ) (len : ℕ) → given ≡ front → length front ≤ len
    → take (length front) (take len (given ++ drop (length given) items)) ≡ front
grown_front front given items len same le =
    let rest = drop (length front) items in
    let on : len ≡ length front + (len - length front) = omega arith in
    ap (λ g. take (length front) (take len (g ++ drop (length g) items))) same
    ∙ ap (λ k. take (length front) (take k (front ++ rest))) on
    ∙ ap (take (length front)) (take-append-add front rest (len - length front))
    ∙ take-append_seam front (take (len - length front) rest)

-- a read of no bytes is the peer's end
pub end_came : (n : ℕ) → n ≡ 0 → nat_eq n 0 ≡ true
end_came n none = rw none refl

pub end_not_come : (n : ℕ) → n ≢ 0 → nat_eq n 0 ≡ false
end_not_come n some = grind (arith, nat_tests)

pub is_below : (a b : ℕ) → a < b → nat_lt a b ≡ true
is_below a b lt = grind (arith, nat_tests)
