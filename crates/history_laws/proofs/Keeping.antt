-- A key that was added and waits stands in the queues once, and every other key in none.
use Rattle.std.proofs.Common.{◌≡◌, ℕ, ◌+◌, Bool, true, false, ◌&&◌, ◌||◌, cond, List, [], ◌∷◌, map, refl, sym, ◌∙◌, ap, ◌==◌}
use Rattle.std.specs.Prelude.{filter, bytes_eq}
use Rattle.std.specs.List.{list_any, AllByRecursion}
use Rattle.std.proofs.lemmas.Slice.Eq.{bytes_eq-Decides}
use Rattle.crawl_history.specs.History.{History}
use Rattle.crawl_history.specs.Places.{place_of, has_key, is_waiting}
use Rattle.crawl_history.specs.Queues.{is_waiting_add, Add, all_adds, waiting_adds, ordinal_of}
use Rattle.crawl_history.specs.Scans.{distinct}
use Rattle.history_promises.specs.Complete.{times_queued, queue_classes}
use Rattle.history_steps.specs.ScansStep.{one_if}
use Rattle.history_laws.proofs.Counting.{number, number-cons, number-and, number-in_queues, number-distinct_from, times_in}
use Rattle.history_laws.proofs.Lists.{or_true, and_false, bytes_itself}

abbrev pub class_of_add : Add → List ℕ
class_of_add a = a.item.class

one_more : (c : List ℕ) (classes : List (List ℕ)) (xs : List Add) → AllByRecursion (λ a. list_any (bytes_eq (class_of_add a)) classes ≡ true) xs → AllByRecursion (λ a. list_any (bytes_eq (class_of_add a)) (c ∷ classes) ≡ true) xs
one_more c classes [] all = tt
one_more c classes (a ∷ xs) all = (ap (λ b. bytes_eq (class_of_add a) c || b) all.0 ∙ or_true _, one_more c classes xs all.1)

-- each class is among the classes
own_classes : (xs : List Add) → AllByRecursion (λ a. list_any (bytes_eq (class_of_add a)) (map class_of_add xs) ≡ true) xs
own_classes [] = tt
own_classes (a ∷ xs) = (
  ap (λ b. b || list_any (bytes_eq (class_of_add a)) (map class_of_add xs)) (bytes_itself (class_of_add a)),
  one_more (class_of_add a) (map class_of_add xs) xs (own_classes xs),
)

-- each of them has its class once among the distinct ones
once_each : (p : Add → Bool) (classes : List (List ℕ)) (xs : List Add) → AllByRecursion (λ a. list_any (bytes_eq (class_of_add a)) classes ≡ true) xs → AllByRecursion (λ x. times_in (distinct bytes_eq classes) x ≡ 1) (map (λ a. a.item) (filter p xs))
once_each p classes [] all = tt
once_each p classes (a ∷ xs) all =
    pick (p a) (filter p xs) (number-distinct_from (class_of_add a) [] classes ∙ ap (λ b. one_if (b && true)) all.0) (once_each p classes xs all.1)
  where
    pick : (b : Bool) (ys : List Add) → times_in (distinct bytes_eq classes) a.item ≡ 1 → AllByRecursion (λ x. times_in (distinct bytes_eq classes) x ≡ 1) (map (λ a. a.item) ys) → AllByRecursion (λ x. times_in (distinct bytes_eq classes) x ≡ 1) (map (λ a. a.item) (cond b (a ∷ ys) ys))
    pick true ys once all = (once, all)
    pick false ys once all = all

pub number-map : {X Y : Type 0} (p : Y → Bool) (g : X → Y) (xs : List X) → number p (map g xs) ≡ number (λ x. p (g x)) xs
number-map p g [] = refl
number-map p g (x ∷ xs) = number-cons p (g x) (map g xs) ∙ ap (λ n. one_if (p (g x)) + n) (number-map p g xs) ∙ sym (number-cons (λ x. p (g x)) x xs)

number-alike : {X : Type 0} (p q : X → Bool) → ((x : X) → p x ≡ q x) → (xs : List X) → number p xs ≡ number q xs
number-alike p q same [] = refl
number-alike p q same (x ∷ xs) = number-cons p x xs ∙ ap (λ b. one_if b + number p xs) (same x) ∙ ap (λ n. one_if (q x) + n) (number-alike p q same xs) ∙ sym (number-cons q x xs)

-- the adds of a key that wait are those with its last ordinal
waits_by_key : (h : History) (key : List ℕ) (a : Add) → (is_waiting_add h a && has_key key a.item) ≡ (has_key key a.item && (is_waiting (place_of h key) && a.ordinal == ordinal_of h key))
waits_by_key h key a =
    by_key (has_key key a.item) (λ e. (bytes_eq-Decides a.item.key key).0 e)
  where
    and_true : (b : Bool) → (b && true) ≡ b
    and_true true = refl
    and_true false = refl

    by_key : (b : Bool) → (b ≡ true → a.item.key ≡ key) → (is_waiting_add h a && b) ≡ (b && (is_waiting (place_of h key) && a.ordinal == ordinal_of h key))
    by_key true same = and_true (is_waiting_add h a) ∙ ap (λ k. is_waiting (place_of h k) && a.ordinal == ordinal_of h k) (same refl)
    by_key false same = and_false (is_waiting_add h a)

-- the adds of a key that wait, counted among all adds
pub waiting-number : (h : History) (key : List ℕ) → number (λ a. has_key key a.item) (waiting_adds h) ≡ number (λ a. has_key key a.item && (is_waiting (place_of h key) && a.ordinal == ordinal_of h key)) (all_adds h)
waiting-number h key = number-and (λ a. has_key key a.item) (is_waiting_add h) (all_adds h) ∙ number-alike _ _ (waits_by_key h key) (all_adds h)

-- what stands in the queues is counted among the adds
pub times_queued-adds : (h : History) (key : List ℕ) → times_queued h key ≡ number (λ a. has_key key a.item && (is_waiting (place_of h key) && a.ordinal == ordinal_of h key)) (all_adds h)
times_queued-adds h key =
    number-in_queues (has_key key) (queue_classes h) (map (λ a. a.item) (waiting_adds h)) (once_each (is_waiting_add h) (map class_of_add (all_adds h)) (all_adds h) (own_classes (all_adds h)))
    ∙ number-map (has_key key) (λ a. a.item) (waiting_adds h)
    ∙ waiting-number h key

pub number-none : {X : Type 0} (p : X → Bool) (xs : List X) → number (λ x. p x && false) xs ≡ 0
number-none p [] = refl
number-none p (x ∷ xs) = number-cons (λ x. p x && false) x xs ∙ ap (λ b. one_if b + number (λ x. p x && false) xs) (and_no (p x)) ∙ ap (λ n. 0 + n) (number-none p xs)
  where
    and_no : (b : Bool) → (b && false) ≡ false
    and_no true = refl
    and_no false = refl

pub times_queued-not_waiting : (h : History) (key : List ℕ) → is_waiting (place_of h key) ≡ false → times_queued h key ≡ 0
times_queued-not_waiting h key e =
    times_queued-adds h key
    ∙ ap (λ w. number (λ a. has_key key a.item && (w && a.ordinal == ordinal_of h key)) (all_adds h)) e
    ∙ number-none (λ a. has_key key a.item) (all_adds h)
