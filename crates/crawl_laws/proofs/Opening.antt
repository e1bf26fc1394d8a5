-- What opening adds to a legal history is legal.
use Rattle.std.proofs.Common.{◌≡◌, ℕ, ◌+◌, ◌≤◌, Bool, true, false, List, [], ◌∷◌, ◌++◌, length, refl, sym, ◌∙◌, ap, subst, arith, add-zero}
use Rattle.std.specs.Prelude.{All, IsTrue, bytes_eq, map, ◌||◌, nat_lt}
use Rattle.std.proofs.lemmas.List.{append-nil, length-map}
use Rattle.crawl_kinds.specs.Address.{IsUri}
use Rattle.crawl_kinds.specs.declared.event.Event.{Event}
use Rattle.crawl_kinds.specs.declared.event.Event.TheVariants.{Seeds}
use Rattle.crawl_kinds.specs.declared.event.TheConstants.{MAX_MS}
use Rattle.crawl_kinds.specs.declared.item.Item.{Item}
use Rattle.crawl_history.specs.Facts.{Archive, Facts}
use Rattle.crawl_history.specs.History.{history_of, last_time}
use Rattle.crawl_history.specs.Places.{known_keys}
use Rattle.crawl_history.specs.Steps.{Legal, Step}
use Rattle.core_facts.specs.CoreFacts.{Pages, facts_with}
use Rattle.core_facts.specs.ValidEvent.{is_event}
use Rattle.core_facts.specs.Validity.{ItemsAreValid, ValidIsComputed}
use Rattle.frontier_adds.proofs.Fewer.{few_distinct}
use Rattle.history_steps.proofs.Legal.{in_room, in_time, legal_more}
use Rattle.frontier_memo.specs.Laws.{KeysGrow}
use Rattle.job_order.specs.declared.read.Job.{Job}
use Rattle.job_ranges.specs.Laws.{IsInRange}
use Rattle.journal_valid.specs.Valid.{IsEvent}
use Rattle.open_crawl.specs.Opening.{AddsSeeds, Begins, added, next_session, time_after}
use Rattle.open_crawl.proofs.Begun.{seeds_valid}
use Rattle.open_crawl.proofs.Firsts.{few_added}

or_true : (b : Bool) → (b || true) ≡ true
or_true true = refl
or_true false = refl

module _ (text : List ℕ) (job : Job) (range : IsInRange text job.settings job.seeds) (computed : ValidIsComputed) (pages : Pages) (a : Archive) (moment : ℕ) where
  abbrev own : Facts
  own = facts_with job.settings (job.scope ∷ []) pages

  -- a session of the job is a step, since it names no key
  session_step : KeysGrow → (held : List Event) → Legal own a held → Step own a (history_of held) (next_session job.settings held moment)
  session_step grow held legal =
      let earlier : last_time (history_of held) ≤ MAX_MS = in_time own a held legal in
      let session = next_session job.settings held moment in
      let in_time : time_after held moment ≤ MAX_MS = omega arith in
      let valid : IsEvent session = (in_time, record { named = range.name_length.0; visible = range.name_visible; numbered = omega arith }) in
      record {
        opened = or_true (nat_lt 0 (0 + length held));
        later = omega arith;
        in_time = in_time;
        valid = computed.event session valid;
        permits = (refl, refl);
        room = subst (λ n. n ≤ job.settings.max_keys) (sym (grow held session tt refl ∙ add-zero (length (known_keys (history_of held))))) (in_room own a held legal);
      }

  -- behind a session alone no more keys are known than seeds add
  few_known : (time : ℕ) (list : List (List ℕ)) (adds : List Item) → length (known_keys (history_of (next_session job.settings [] moment ∷ Seeds time list adds ∷ []))) ≤ length adds
  few_known time list adds =
      let keys = map (λ (i : Item). i.key) (adds ++ []) ++ [] in
      let few : length (known_keys (history_of (next_session job.settings [] moment ∷ Seeds time list adds ∷ []))) ≤ length keys = few_distinct bytes_eq [] keys in
      let same : length keys ≡ length adds
      = ap (λ (l : List (List ℕ)). length l) (append-nil (map (λ (i : Item). i.key) (adds ++ [])))
      ∙ length-map (adds ++ []) (λ (i : Item). i.key)
      ∙ ap (λ (l : List Item). length l) (append-nil adds)
      in
      omega arith

  -- so the job's seeds are a step behind it
  seeds_step :
      ItemsAreValid → All IsUri job.seeds → (e : Event) → AddsSeeds job.settings job.scope (next_session job.settings [] moment ∷ []) job.seeds moment e
      → Legal own a (next_session job.settings [] moment ∷ []) → Step own a (history_of (next_session job.settings [] moment ∷ [])) e
  seeds_step made forms e adds legal =
      let first = next_session job.settings [] moment ∷ [] in
      let earlier : last_time (history_of first) ≤ MAX_MS = in_time own a first legal in
      let items = added job.settings job.scope pages first job.seeds in
      let time = time_after first moment in
      let few : length items ≤ length job.seeds = few_added own (history_of first) job.seeds in
      subst (λ (e : Event). Step own a (history_of first) e) (sym (adds pages))
      (record {
        opened = refl;
        later = omega arith;
        in_time = omega arith;
        valid = subst (λ (e : Event). IsTrue (is_event e)) (adds pages) (computed.event e (seeds_valid made job.settings job.scope first job.seeds moment e forms adds earlier));
        permits = refl;
        room = omega (arith, few, few_known time job.seeds items, range.seeds_within_keys);
      })

  -- both, or the session behind what was there
  pub opening_legal :
      ItemsAreValid → KeysGrow → All IsUri job.seeds → (held new : List Event) → Begins job moment held new → Legal own a held → Legal own a (held ++ new)
  opening_legal made grow forms [] new begins legal =
      let session : Legal own a (next_session job.settings [] moment ∷ []) = (session_step grow [] legal, tt) in
      subst (Legal own a) (sym begins.is) (session.0, (seeds_step made forms begins.seeds begins.adds session, tt))
  opening_legal made grow forms (e ∷ held) new begins legal =
      subst (λ (l : List Event). Legal own a ((e ∷ held) ++ l)) (sym begins)
      (legal_more own a (e ∷ held) (next_session job.settings (e ∷ held) moment) legal (session_step grow (e ∷ held) legal))
