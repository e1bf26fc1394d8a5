-- The core after seeds.
use Rattle.std.proofs.Common.{◌≡◌, ℕ, ◌+◌, ◌<◌, ◌≤◌, Bool, true, false, List, [], ◌∷◌, length, refl, sym, ◌∙◌, ap, subst, cond, arith, nat_le, nat_lt}
use Rattle.std.specs.Prelude.{All, count_by, filter}
use Rattle.std.specs.List.{list_all, list_any, AllByRecursion}
use Rattle.std.proofs.lemmas.Bool.{le-leb, lt-ltb}
use Rattle.std.proofs.lemmas.List.Elements.{All-head, All-tail}
use Rattle.std.proofs.lemmas.List.Sums.{length-filter}
use Rattle.crawl_kinds.specs.declared.event.Event.{Event}
use Rattle.crawl_kinds.specs.declared.event.Event.TheVariants.{Seeds}
use Rattle.crawl_kinds.specs.declared.item.Item.{Item}
use Rattle.crawl_kinds.specs.Address.{IsUri}
use Rattle.crawl_kinds.specs.declared.event.TheConstants.{MAX_MS}
use Rattle.crawl_history.specs.Facts.{Archive}
use Rattle.crawl_history.specs.History.{History, is_session, last_time}
use Rattle.crawl_history.specs.Steps.{Legal, Step}
use Rattle.core_facts.specs.CoreFacts.{Pages}
use Rattle.core_facts.specs.ValidEvent.{is_add, is_address}
use Rattle.core_facts.specs.Validity.{ItemsAreValid, ValidIsComputed}
use Rattle.frontier_core.specs.Answers.{IsSeeded, IsFull}
use Rattle.frontier_core.specs.Core.{Core, absent_count, facts, history, with_event, next_time, known_count, seed_adds}
use Rattle.history_steps.proofs.Legal.{in_time}
use Rattle.frontier_core.proofs.Emits.{and_both, or_left}
use Rattle.frontier_memo.specs.Fits.{Fits}
use Rattle.frontier_memo.specs.Laws.{are_new}
use Rattle.frontier_memo.proofs.Counting.{keys_more}
use Rattle.frontier_memo.proofs.Telling.{new_adds_fit}

-- where all pass, as many pass as there are
pub count_all : {X : Type 0} (p : X → Bool) (xs : List X) → AllByRecursion (λ x. p x ≡ true) xs → count_by p xs ≡ length xs
count_all {X} p xs all = sym (length-filter p xs) ∙ ap (λ l. length l) (kept xs all)
  where
    kept : (xs : List X) → AllByRecursion (λ x. p x ≡ true) xs → filter p xs ≡ xs
    kept [] all = refl
    kept (x ∷ xs) all = ap (λ b. cond b (x ∷ filter p xs) (filter p xs)) all.0 ∙ ap (λ ys. x ∷ ys) (kept xs all.1)

pub seeds_fit : (h : History) (list : List (List ℕ)) (adds : List Item) → are_new h adds ≡ true → (time : ℕ) → Fits h (Seeds time list adds)
seeds_fit h list adds fresh time = record { kind = tt; adds = new_adds_fit h (Seeds time list adds) tt fresh }

module _ (core : Core) (list : List (List ℕ)) (adds : List Item) (items : (pages : Pages) → adds ≡ seed_adds core pages list) where
  pub seeds_full : (known more : ℕ) → known ≡ known_count core → more ≡ length adds → core.settings.max_keys < known + more → IsFull core list known more
  seeds_full known more count len past = record { of_known = count; of_adds = λ pages. len ∙ ap (λ (l : List Item). length l) (items pages); more = past }

  pub seeds_said : (new : Core) (time now : ℕ) (e : Event) → time ≡ next_time core now → e ≡ Seeds time list adds → new ≡ with_event core e → IsSeeded core new list now e
  seeds_said new time now e timed event kept =
      record { event = λ pages. event ∙ ap (λ t. Seeds t list adds) timed ∙ ap (λ l. Seeds (next_time core now) list l) (items pages); kept = kept }

pub seeds_counted :
    (core : Core) (list : List (List ℕ)) (adds : List Item) → are_new (history core) adds ≡ true → (time : ℕ)
    → known_count (with_event core (Seeds time list adds)) ≡ known_count core + absent_count core adds
seeds_counted core list adds fresh time = keys_more core.events (Seeds time list adds) tt fresh

-- ---- the step

by_recursion : {X : Type 0} (P : X → Type 0) (xs : List X) → All P xs → AllByRecursion P xs
by_recursion P [] all = tt
by_recursion P (x ∷ xs) all = (All-head P x xs all, by_recursion P xs (All-tail P x xs all))

-- what is a list of addresses is computed as one
spelled : ItemsAreValid → ValidIsComputed → (list : List (List ℕ)) → AllByRecursion IsUri list → list_all is_address list ≡ true
spelled made computed [] all = refl
spelled made computed (uri ∷ list) all =
    and_both (is_address uri) (list_all is_address list) (computed.address uri (made.address uri all.0)) (spelled made computed list all.1)

-- where there was a session, there are events
some_event : (events : List Event) → list_any is_session events ≡ true → nat_lt 0 (0 + length events) ≡ true
some_event [] opened = cc
some_event (e ∷ events) opened = lt-ltb 0 (0 + length (e ∷ events)) (omega arith)

-- seeds are one step of a legal history
pub seeds_step :
    (made : ItemsAreValid) (computed : ValidIsComputed) (pages : Pages) (a : Archive) (core : Core) (list : List (List ℕ)) (adds : List Item) (now : ℕ)
    → list_any is_session core.events ≡ true → All IsUri list → adds ≡ seed_adds core pages list → are_new (history core) adds ≡ true
    → list_all is_add adds ≡ true → known_count core + absent_count core adds ≤ core.settings.max_keys → Legal (facts core pages) a core.events
    → Step (facts core pages) a (history core) (Seeds (next_time core now) list adds)
seeds_step made computed pages a core list adds now opened all items fresh valid room legal =
    let earlier : last_time (history core) ≤ MAX_MS = in_time (facts core pages) a core.events legal in
    let later : next_time core now ≤ MAX_MS = omega (arith, earlier) in
    record {
      opened = or_left (nat_lt 0 (0 + length core.events)) false (some_event core.events opened);
      later = omega arith;
      in_time = later;
      valid = and_both _ (list_all is_add adds)
          (and_both (nat_le (next_time core now) MAX_MS) (list_all is_address list) (le-leb (next_time core now) MAX_MS later) (spelled made computed list (by_recursion IsUri list all))) valid;
      permits = items;
      room = subst (λ n. n ≤ core.settings.max_keys) (sym (seeds_counted core list adds fresh (next_time core now))) room;
    }
