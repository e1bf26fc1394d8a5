-- Fronts of texts that are written piece by piece.
use Rattle.std.proofs.Common.{◌≡◌, ℕ, zero, suc, ◌+◌, ◌<◌, ◌≤◌, List, [], ◌∷◌, ◌++◌, length, take, drop, get_or, refl, sym, ◌∙◌, ap, arith, append_assoc, length-append}
use Rattle.std.specs.List.{flat_map}
use Rattle.std.specs.Prelude.{Result, Ok, Err}
use Rattle.crawl_traits.specs.declared.fault.Failed.{Failed}
use Rattle.crawl_traits.specs.declared.stream.Sink.{Ghosts}
use Rattle.program_status.specs.Gains.{GainsFront, Says}

pub none_there : (i : ℕ) → i < 0 → ⊥
none_there i small = omega (arith, small)

pub one_less : (i n : ℕ) → suc i < suc n → i < n
one_less i n small = omega (arith, small)

-- all pieces are those before one, it, and those behind it
pub split_at : {X : Type 0} (f : X → List ℕ) (xs : List X) (i : ℕ) (d : X) → i < length xs → flat_map f xs ≡ flat_map f (take i xs) ++ (f (get_or xs i d) ++ flat_map f (drop (suc i) xs))
split_at f [] i d small = absurd (none_there i small)
split_at f (x ∷ xs) zero d small = refl
split_at f (x ∷ xs) (suc i) d small = ap (λ t. f x ++ t) (split_at f xs i d (one_less i (length xs) small)) ∙ sym (append_assoc (f x) (flat_map f (take i xs)) (f (get_or xs i d) ++ flat_map f (drop (suc i) xs)))

-- a front of a text stands at the front of the text and more
pub take-within : (n : ℕ) (a b : List ℕ) → n ≤ length a → take n (a ++ b) ≡ take n a
take-within zero a b small = refl
take-within (suc n) [] b small = absurd (none_there n small)
take-within (suc n) (x ∷ a) b small = ap (λ t. x ∷ t) (take-within n a b (less n (length a) small))
  where
    less : (n k : ℕ) → suc n ≤ suc k → n ≤ k
    less n k small = omega (arith, small)

pub take-behind : (n : ℕ) (a b : List ℕ) → take (length a + n) (a ++ b) ≡ a ++ take n b
take-behind n [] b = ap (λ (k : ℕ). take k b) (same n)
  where
    same : (n : ℕ) → 0 + n ≡ n
    same n = omega arith
take-behind n (x ∷ a) b = ap (λ (k : ℕ). take k (x ∷ (a ++ b))) (one_more (length a) n) ∙ ap (λ t. x ∷ t) (take-behind n a b)
  where
    one_more : (k n : ℕ) → suc k + n ≡ suc (k + n)
    one_more k n = omega arith

-- after the pieces before one, a front of it makes a front of all
pub front_of : {X : Type 0} (f : X → List ℕ) (xs : List X) (i : ℕ) (d : X) (n : ℕ) (old mid new : List ℕ) → i < length xs → n ≤ length (f (get_or xs i d))
    → mid ≡ old ++ flat_map f (take i xs) → new ≡ mid ++ take n (f (get_or xs i d)) → GainsFront old new (flat_map f xs)
front_of f xs i d n old mid new small within before more =
    let done = flat_map f (take i xs) in
    let piece = f (get_or xs i d) in
    let rest = flat_map f (drop (suc i) xs) in
    let whole = split_at f xs i d small in
    record {
      upto = length done + n;
      within = omega (arith, ap length whole, length-append done (piece ++ rest), length-append piece rest, within);
      is = more ∙ ap (λ (t : List ℕ). t ++ take n piece) before ∙ append_assoc old done (take n piece)
          ∙ ap (λ (t : List ℕ). old ++ t) (sym (ap (λ (t : List ℕ). take (length done + n) t) whole ∙ take-behind n done (piece ++ rest) ∙ ap (λ (t : List ℕ). done ++ t) (take-within n piece rest within)));
    }

-- a front of a text is a front of the text and more
pub front_longer : (old new a b : List ℕ) → GainsFront old new a → GainsFront old new (a ++ b)
front_longer old new a b front = record {
  upto = front.upto;
  within = omega (arith, front.within, length-append a b);
  is = front.is ∙ ap (λ (t : List ℕ). old ++ t) (sym (take-within front.upto a b front.within));
}

-- behind a whole text, a front of another is a front of both
pub front_behind : (old mid new a b : List ℕ) → mid ≡ old ++ a → GainsFront mid new b → GainsFront old new (a ++ b)
front_behind old mid new a b whole front = record {
  upto = length a + front.upto;
  within = omega (arith, front.within, length-append a b);
  is = front.is ∙ ap (λ (t : List ℕ). t ++ take front.upto b) whole ∙ append_assoc old a (take front.upto b) ∙ ap (λ (t : List ℕ). old ++ t) (sym (take-behind front.upto a b));
}

-- a text that is written after another was written whole
module _ {S : Type 0} (of : Ghosts S) (old mid new : S) (a b : List ℕ) where
  pub says_then : (r : Result (Unit {0}) Failed) → Says of old mid a (Ok tt) → Says of mid new b r → Says of old new (a ++ b) r
  says_then (Ok done) first second = record {
    ok = λ told. second.ok (first.tells ∙ told) ∙ ap (λ (t : List ℕ). t ++ b) (first.ok told) ∙ append_assoc (of.written old) a b;
    err = λ told. tt;
    tells = second.tells ∙ first.tells;
    cause = record { later = omega (arith, first.cause.later, second.cause.later); failed = tt };
  }
  says_then (Err failed) first second = record {
    ok = λ told. tt;
    err = λ told. front_behind (of.written old) (of.written mid) (of.written new) a b (first.ok told) (second.err (first.tells ∙ told));
    tells = second.tells ∙ first.tells;
    cause = record { later = omega (arith, first.cause.later, second.cause.later); failed = omega (arith, first.cause.later, second.cause.failed) };
  }

  -- and one that is not written, since the one before it failed
  pub says_no_more : (failed : Failed) → Says of old mid a (Err failed) → Says of old mid (a ++ b) (Err failed)
  says_no_more failed first = record {
    ok = λ told. tt;
    err = λ told. front_longer (of.written old) (of.written mid) a b (first.err told);
    tells = first.tells;
    cause = first.cause;
  }
