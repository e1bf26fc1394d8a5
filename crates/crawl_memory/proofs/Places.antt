-- The place of a byte, the last of several exchanges, and an entry by its number.
use Rattle.std.proofs.Common.{◌≡◌, ℕ, zero, suc, ◌+◌, ◌≤◌, ◌<◌, Some, None, Bool, true, not, List, [], ◌∷◌, length, drop, set, get_or, sym, ap, unwrap_or, cond, nat_lt, arith}
use Rattle.std.specs.List.{find, position, position_or_len}
use Rattle.std.proofs.lemmas.List.Sums.{prefix_len-le-length}
use Rattle.std.proofs.lemmas.Bool.Decides.{nat_tests}
use Rattle.std.proofs.lemmas.Grind.{common_steps}
use Rattle.std.specs.Prelude.{option_map, nat_eq}
use Rattle.crawl_traits.specs.Exchanges.{with_last}
use Rattle.crawl_traits.specs.declared.link.Exchange.{Exchange}
use Rattle.crawl_traits.specs.declared.link.LinkFault.{LinkFault}
use Rattle.crawl_memory.specs.LinkFails.{fault_at}
use Rattle.crawl_memory.specs.Site.{left, left_of}
use Rattle.crawl_memory.specs.declared.page.Page.{Page}

cond-unwrap : (n m : ℕ) → n ≤ m → unwrap_or (cond (nat_lt n m) (Some n) None) m ≡ n
cond-unwrap n m h = grind (arith, common_steps)

pub place_or_len : (p : ℕ → Bool) (xs : List ℕ) → unwrap_or (position p xs) (length xs) ≡ position_or_len p xs
place_or_len p xs = cond-unwrap (position_or_len p xs) (length xs) (prefix_len-le-length (λ x. not (p x)) xs)

pub place_within : (p : ℕ → Bool) (xs : List ℕ) → position_or_len p xs ≤ length xs
place_within p xs = prefix_len-le-length (λ x. not (p x)) xs

-- a step of the exchange in the last place
pub step_last : (step : Exchange → Exchange) (xs : List Exchange) (i : ℕ) (e : Exchange) → i + 1 ≡ length xs → e ≡ get_or xs i e → set xs i (step e) ≡ with_last step xs
step_last step [] i e last at = absurd (omega (arith, last))
step_last step (x ∷ []) zero e last at = ap (λ (y : Exchange). step y ∷ []) at
step_last step (x ∷ []) (suc i) e last at = absurd (omega (arith, last))
step_last step (x ∷ y ∷ more) zero e last at = absurd (omega (arith, last))
step_last step (x ∷ y ∷ more) (suc i) e last at = ap (λ (l : List Exchange). x ∷ l) (step_last step (y ∷ more) i e (omega (arith, last)) at)

pub left_last : (site : List Page) (xs : List Exchange) (i : ℕ) (e : Exchange) → i + 1 ≡ length xs → e ≡ get_or xs i e → left_of site e ≡ left site xs
left_last site [] i e last at = absurd (omega (arith, last))
left_last site (x ∷ []) zero e last at = ap (λ (y : Exchange). left_of site y) at
left_last site (x ∷ []) (suc i) e last at = absurd (omega (arith, last))
left_last site (x ∷ y ∷ more) zero e last at = absurd (omega (arith, last))
left_last site (x ∷ y ∷ more) (suc i) e last at = left_last site (y ∷ more) i e (omega (arith, last)) at

same_number : (a b : ℕ) → a ≡ b → nat_eq a b ≡ true
same_number a b e = grind (arith, nat_tests)

-- the entry in a place, if it has the number
pub found_entry : (xs : List (ℕ × LinkFault)) (i number : ℕ) (d : ℕ × LinkFault) → i < length xs → (get_or xs i d).0 ≡ number → Some (get_or xs i d).1 ≡ fault_at number (drop i xs)
found_entry [] i number d lt is = absurd (omega (arith, lt))
found_entry (x ∷ xs) zero number d lt is = sym (ap (λ (b : Bool). option_map (λ (entry : ℕ × LinkFault). entry.1) (cond b (Some x) (find (λ (entry : ℕ × LinkFault). nat_eq entry.0 number) xs))) (same_number x.0 number is))
found_entry (x ∷ xs) (suc i) number d lt is = found_entry xs i number d (omega (arith, lt)) is
