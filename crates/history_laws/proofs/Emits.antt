-- The emits of a session, the finishes, and what each scan of them says, apart from a history.
use Rattle.std.proofs.Common.{◌≡◌, ℕ, ◌+◌, Bool, true, false, ◌||◌, not, List, [], ◌∷◌, refl, ◌∙◌, ap, arith, Option, Some, None}
use Rattle.std.specs.Prelude.{filter, filter_map, option_map, if◌then◌else◌, nat_le, ◌==◌}
use Rattle.std.specs.List.{list_any, AllByRecursion, cons_option}
use Rattle.std.proofs.lemmas.Grind.{common_steps}
use Rattle.crawl_kinds.specs.declared.event.Event.{Event}
use Rattle.crawl_kinds.specs.Event.{finish_of, Emission, Finishing}
use Rattle.crawl_history.specs.Facts.{Facts, Archive}
use Rattle.crawl_history.specs.Queues.{in_class}
use Rattle.crawl_history.specs.Robots.{is_robots_finish, state_by}
use Rattle.crawl_history.specs.Scans.{last_of, through}
use Rattle.crawl_history.specs.Waits.{wait_by}
use Rattle.history_promises.specs.Polite.{has_ticket}

-- ---- words

abbrev pub finished : List Finishing → ℕ → Bool
finished ends n = list_any (λ c. c.ticket == n) ends

abbrev pub hits : ℕ → Event → Bool
hits n e = has_ticket n (finish_of e)

abbrev pub last_emit : List ℕ → List Emission → Option Emission
last_emit k emits = last_of (λ m. if in_class k m.item then Some m else None) emits

abbrev pub last_end : List ℕ → List Finishing → Option Finishing
last_end k ends = last_of (λ c. if in_class k c.item then Some c else None) ends

abbrev pub open_emits : List Emission → List Finishing → List Emission
open_emits emits ends = filter (λ m. not (finished ends m.ticket)) emits

abbrev pub has_open : List Emission → List Finishing → List ℕ → Bool
has_open emits ends k = list_any (λ m. in_class k m.item) (open_emits emits ends)

abbrev pub robots_end : List ℕ → List Finishing → Option Finishing
robots_end k ends = last_of (λ c. if is_robots_finish k c then Some c else None) ends

abbrev pub wait_in : Facts → Archive → List Finishing → Finishing → ℕ
wait_in f a ends c = wait_by f (state_by f a c.time (robots_end c.item.class ends)) c.end.outcome c.end.fetch

abbrev pub Bounded : ℕ → List Finishing → Type 0
Bounded count ends = AllByRecursion (λ c. nat_le c.ticket count ≡ true) ends

-- ---- tickets

pub above_none : (n : ℕ) (count : ℕ) → nat_le n count ≡ true → (n == count + 1) ≡ false
above_none n count h = grind (arith, common_steps)

pub one_above : (n : ℕ) (count : ℕ) → nat_le n count ≡ true → nat_le n (count + 1) ≡ true
one_above n count h = grind (arith, common_steps)

pub number_itself : (n : ℕ) → (n == n) ≡ true
number_itself n = grind (arith, common_steps)

pub same_number : (n m : ℕ) → (n == m) ≡ true → n ≡ m
same_number n m h = grind (arith, common_steps)

-- the next ticket is finished nowhere
pub finished-next : (count : ℕ) (ends : List Finishing) → Bounded count ends → finished ends (count + 1) ≡ false
finished-next count [] all = refl
finished-next count (c ∷ ends) all = ap (λ b. b || finished ends (count + 1)) (above_none c.ticket count all.0) ∙ finished-next count ends all.1

pub through-next : (count : ℕ) (events : List Event) → Bounded count (filter_map finish_of events) → through (hits (count + 1)) events ≡ None
through-next count [] all = refl
through-next count (e ∷ events) all = by_finish (finish_of e) all (through-next count events)
  where
    by_finish : (o : Option Finishing) → Bounded count (cons_option o (filter_map finish_of events)) → (Bounded count (filter_map finish_of events) → through (hits (count + 1)) events ≡ None) → (if has_ticket (count + 1) o then Some (e ∷ []) else option_map (λ us. e ∷ us) (through (hits (count + 1)) events)) ≡ None
    by_finish None all rest = ap (option_map (λ us. e ∷ us)) (rest all)
    by_finish (Some c) all rest =
        ap (λ b. if b then Some (e ∷ []) else option_map (λ us. e ∷ us) (through (hits (count + 1)) events)) (above_none c.ticket count all.0)
        ∙ ap (option_map (λ us. e ∷ us)) (rest all.1)
