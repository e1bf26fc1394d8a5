-- A core that has a session alone: it has room for its job's seeds, and knows nothing of robots files.
use Rattle.std.proofs.Common.{◌≡◌, ℕ, ◌≤◌, Bool, true, false, List, [], ◌∷◌, length, refl, sym, ◌∙◌, ap, subst, arith}
use Rattle.std.specs.Prelude.{filter, ◌&&◌}
use Rattle.std.proofs.lemmas.List.{length-map}
use Rattle.crawl_kinds.specs.declared.event.Event.{Event}
use Rattle.crawl_kinds.specs.declared.event.Event.TheVariants.{Session, Seeds, Emit, Finish}
use Rattle.crawl_kinds.specs.declared.item.Item.{Item}
use Rattle.crawl_kinds.specs.Event.{finish_of}
use Rattle.crawl_history.specs.Facts.{Facts, Archive}
use Rattle.crawl_history.specs.History.{History, history_of, is_session}
use Rattle.crawl_history.specs.Places.{known_keys, place_of, is_absent}
use Rattle.crawl_history.specs.Scope.{is_in_scope}
use Rattle.crawl_history.specs.Adds.{item_of, new_items, same_key, seed_candidates}
use Rattle.core_facts.specs.CoreFacts.{Pages}
use Rattle.frontier_adds.proofs.Fewer.{few_distinct, few_filtered}
use Rattle.frontier_core.specs.Answers.{IsSeeded, IsFull}
use Rattle.frontier_core.specs.Core.{Core, facts, history, with_event}
use Rattle.frontier_core.specs.Standing.{Stands, StandingLaws}
use Rattle.std.proofs.Common.{None}

-- some pages: seeds add the same whatever they are
pub no_pages : Pages
no_pages = record {
  payload = λ block. block;
  links = λ uri block. [];
  fits = λ uri block end. false;
  next_spot = λ edge c block. record { file = 0; at = 0; len = 0 };
}

no_keys : (e : Event) → is_session e ≡ true → length (known_keys (history_of (e ∷ []))) ≡ 0
no_keys (Session time job format) is = refl
no_keys (Seeds time list adds) is = cc
no_keys (Emit time caller ticket verdict item) is = cc
no_keys (Finish time caller ticket item end adds) is = cc

-- seeds add no more items than they are
pub few_added : (f : Facts) (h : History) (uris : List (List ℕ)) → length (new_items f h (seed_candidates f uris)) ≤ length uris
few_added f h uris =
    let p : Item → Bool = λ i. is_in_scope f h i && is_absent (place_of h i.key) in
    let items : List Item = seed_candidates f uris in
    let same : length items ≡ length uris = length-map uris (λ uri. item_of f uri [] None) in
    let few : length (filter p items) ≤ length items = few_filtered p items in
    let once : length (new_items f h items) ≤ length (filter p items) = few_distinct same_key [] (filter p items) in
    omega arith

-- a core of a session alone has room for as many seeds as its job has keys
pub first_room : (core : Core) (list : List (List ℕ)) (known adds : ℕ) (e : Event) → core.events ≡ e ∷ [] → is_session e ≡ true → length list ≤ core.settings.max_keys → IsFull core list known adds → ⊥
first_room core list known adds e one is room full =
    let none : known ≡ 0 = full.of_known ∙ ap (λ (es : List Event). length (known_keys (history_of es))) one ∙ no_keys e is in
    let few : length (new_items (facts core no_pages) (history core) (seed_candidates (facts core no_pages) list)) ≤ length list = few_added (facts core no_pages) (history core) list in
    let same : adds ≡ length (new_items (facts core no_pages) (history core) (seed_candidates (facts core no_pages) list)) = full.of_adds no_pages in
    let more = full.more in
    omega arith

-- robots files: seeds change nothing of what is kept of them
seeds_still : StandingLaws → (pages : Pages) (a : Archive) (core : Core) (e : Event) (time : ℕ) (list : List (List ℕ)) (adds : List Item) → e ≡ Seeds time list adds
    → Stands pages a core → Stands pages a (with_event core e)
seeds_still laws pages a core e time list adds is stands =
    let no_session : is_session e ≡ false = ap is_session is in
    let no_finish : finish_of e ≡ None = ap finish_of is in
    laws.still pages a core e no_session no_finish stands

pub seeded_stands : StandingLaws → (old new : Core) (list : List (List ℕ)) (now : ℕ) (e : Event) → IsSeeded old new list now e
    → (pages : Pages) (a : Archive) → Stands pages a old → Stands pages a new
seeded_stands laws old new list now e is pages a stands =
    subst (λ (core : Core). Stands pages a core) (sym is.kept) (seeds_still laws pages a old e _ list _ (is.event pages) stands)
