-- The events that opening adds, and those of seeds: valid, and short enough for one block.
use Rattle.std.proofs.Common.{◌≡◌, ℕ, ◌≤◌, max, Bool, true, false, List, [], ◌∷◌, ◌++◌, length, drop, All, refl, sym, ◌∙◌, ap, subst, arith, append_assoc, length-append}
use Rattle.std.specs.Prelude.{fold, ◌||◌, ◌==◌}
use Rattle.std.specs.List.{AllByRecursion, list_any}
use Rattle.std.proofs.Math.Seq.{drop-append_seam}
use Rattle.std.proofs.lemmas.Bool.{eqb-true, false≢true}
use Rattle.std.proofs.lemmas.List.Elements.{All-weaker, recursion_from_All}
use Rattle.std.proofs.lemmas.List.Folds.{list_any-append}
use Rattle.crawl_kinds.specs.Address.{IsUri}
use Rattle.crawl_kinds.specs.Event.{time_of}
use Rattle.crawl_kinds.specs.declared.settings.Settings.{Settings}
use Rattle.crawl_kinds.specs.declared.event.TheConstants.{MAX_MS}
use Rattle.crawl_kinds.specs.declared.event.Event.{Event}
use Rattle.crawl_kinds.specs.declared.event.Event.TheVariants.{Session, Seeds, Emit, Finish}
use Rattle.scope_spec.specs.Decision.{ScopeRules}
use Rattle.crawl_history.specs.History.{history_of, last_time, is_session}
use Rattle.core_facts.specs.CoreFacts.{facts_with}
use Rattle.core_facts.specs.Validity.{ItemsAreValid}
use Rattle.frontier_core.specs.Answers.{IsSeeded}
use Rattle.frontier_core.specs.Core.{Core}
use Rattle.job_order.specs.declared.read.Job.{Job}
use Rattle.job_ranges.specs.Laws.{IsInRange}
use Rattle.journal_spec.specs.Journal.{spelling}
use Rattle.journal_valid.specs.Items.{IsAddress, IsAdd}
use Rattle.journal_valid.specs.Valid.{IsEvent}
use Rattle.open_crawl.specs.Opening.{time_after, next_session, added, AddsSeeds, BeginsAnew, Begins, FitsBlock}
use Rattle.open_crawl.proofs.Firsts.{no_pages, few_added}
use Rattle.open_crawl.proofs.Lengths.{session_short, seeds_short}

-- ---- times

time_valid : (e : Event) → IsEvent e → time_of e ≤ MAX_MS
time_valid (Session time job format) is = is.0
time_valid (Seeds time list adds) is = is.0
time_valid (Emit time caller ticket verdict item) is = is.0.in_time
time_valid (Finish time caller ticket item end adds) is = is.0.in_time

latest_valid : (t : ℕ) (events : List Event) → t ≤ MAX_MS → AllByRecursion IsEvent events → fold (λ s e. max s (time_of e)) t events ≤ MAX_MS
latest_valid t [] le all = le
latest_valid t (e ∷ events) le all =
    let here : time_of e ≤ MAX_MS = time_valid e all.0 in
    latest_valid (max t (time_of e)) events (omega arith) all.1

-- no valid event is later than the latest time
last_valid : (events : List Event) → AllByRecursion IsEvent events → last_time (history_of events) ≤ MAX_MS
last_valid events all = latest_valid 0 events (omega arith) all

time_after_valid : (events : List Event) (moment : ℕ) → last_time (history_of events) ≤ MAX_MS → time_after events moment ≤ MAX_MS
time_after_valid events moment le = omega arith

pub all-append : {X : Type 0} (P : X → Type 0) (xs ys : List X) → AllByRecursion P xs → AllByRecursion P ys → AllByRecursion P (xs ++ ys)
all-append P [] ys all more = more
all-append P (x ∷ xs) ys all more = (all.0, all-append P xs ys all.1 more)

-- so with more valid events
pub more_valid : (events new : List Event) → AllByRecursion IsEvent events → AllByRecursion IsEvent new → last_time (history_of (events ++ new)) ≤ MAX_MS
more_valid events new all more = last_valid (events ++ new) (all-append IsEvent events new all more)

latest_more : (t : ℕ) (events : List Event) (e : Event) → fold (λ s x. max s (time_of x)) t (events ++ e ∷ []) ≡ max (fold (λ s x. max s (time_of x)) t events) (time_of e)
latest_more t [] e = refl
latest_more t (x ∷ events) e = latest_more (max t (time_of x)) events e

-- and with one more
one_more_valid : (events : List Event) (e : Event) → last_time (history_of events) ≤ MAX_MS → IsEvent e → last_time (history_of (events ++ e ∷ [])) ≤ MAX_MS
one_more_valid events e le is = omega (arith, latest_more 0 events e, time_valid e is)

-- the events behind others
pub behind : (before all new : List Event) (n : ℕ) → n ≡ length before → all ≡ before ++ new → drop n all ≡ new
behind before all new n len is = ap (λ (k : ℕ). drop k all) len ∙ ap (λ (l : List Event). drop (length before) l) is ∙ drop-append_seam before new

-- ---- sessions

or_true : (b : Bool) → (b || true) ≡ true
or_true true = refl
or_true false = refl

pub any_later : (events new : List Event) → list_any is_session new ≡ true → list_any is_session (events ++ new) ≡ true
any_later events new is = list_any-append is_session events new ∙ ap (λ (b : Bool). list_any is_session events || b) is ∙ or_true (list_any is_session events)

-- ---- the event of seeds

module _ (laws : ItemsAreValid) (settings : Settings) (scope : ScopeRules) (events : List Event) (list : List (List ℕ)) (moment : ℕ) (e : Event) (forms : All IsUri list) (adds : AddsSeeds settings scope events list moment e) (in_time : last_time (history_of events) ≤ MAX_MS) where
  items_valid : AllByRecursion IsAdd (added settings scope no_pages events list)
  items_valid = (laws.made settings (scope ∷ []) no_pages).seeds (history_of events) list (recursion_from_All IsUri list forms)

  list_valid : AllByRecursion IsAddress list
  list_valid = recursion_from_All IsAddress list (All-weaker IsUri IsAddress laws.address list forms)

  pub seeds_valid : IsEvent e
  seeds_valid = subst (λ (e : Event). IsEvent e) (sym (adds no_pages)) (time_after_valid events moment in_time, list_valid, items_valid)

  pub seeds_spelled : length list ≤ 200000 → length (spelling e) ≤ 1900000000
  seeds_spelled few =
      subst (λ (e : Event). length (spelling e) ≤ 1900000000) (sym (adds no_pages))
      (seeds_short (time_after events moment) list (added settings scope no_pages events list) (time_after_valid events moment in_time) list_valid items_valid few
      (few_added (facts_with settings (scope ∷ []) no_pages) (history_of events) list))

  pub seeds_fit : length list ≤ 200000 → FitsBlock (e ∷ [])
  seeds_fit few = record {
    some = omega arith;
    valid = (seeds_valid, tt);
    short = omega (arith, seeds_spelled few, length-append (spelling e) []);
  }

-- so the events of a core with that of seeds are in time
pub seeded_in_time : ItemsAreValid → (old new : Core) (list : List (List ℕ)) (now : ℕ) (e : Event) → All IsUri list → IsSeeded old new list now e → last_time (history_of old.events) ≤ MAX_MS
    → last_time (history_of new.events) ≤ MAX_MS
seeded_in_time laws old new list now e forms is in_time =
    subst (λ (core : Core). last_time (history_of core.events) ≤ MAX_MS) (sym is.kept)
    (one_more_valid old.events e in_time (seeds_valid laws old.settings old.scope old.events list now e forms is.event in_time))

-- ---- what opening adds

module _ (laws : ItemsAreValid) (text : List ℕ) (job : Job) (range : IsInRange text job.settings job.seeds) (forms : All IsUri job.seeds) (moment : ℕ) where
  session_valid : (events : List Event) → AllByRecursion IsEvent events → IsEvent (next_session job.settings events moment)
  session_valid events all =
      (time_after_valid events moment (last_valid events all), record { named = range.name_length.0; visible = range.name_visible; numbered = omega arith })

  session_spelled : (events : List Event) → AllByRecursion IsEvent events → length (spelling (next_session job.settings events moment)) ≤ 100
  session_spelled events all = session_short (time_after events moment) job.settings.name (time_after_valid events moment (last_valid events all)) range.name_length.1

  anew_fits : (new : List Event) → BeginsAnew job moment new → FitsBlock new
  anew_fits new anew =
      let first = next_session job.settings [] moment in
      let valid : IsEvent first = session_valid [] tt in
      let in_time : last_time (history_of (first ∷ [])) ≤ MAX_MS = last_valid (first ∷ []) (valid, tt) in
      let seeds : IsEvent anew.seeds = seeds_valid laws job.settings job.scope (first ∷ []) job.seeds moment anew.seeds forms anew.adds in_time in
      let short : length (spelling anew.seeds) ≤ 1900000000 = seeds_spelled laws job.settings job.scope (first ∷ []) job.seeds moment anew.seeds forms anew.adds in_time range.few_seeds in
      subst FitsBlock (sym anew.is)
      (record {
        some = omega arith;
        valid = (valid, (seeds, tt));
        short = omega (arith, session_spelled [] tt, short, length-append (spelling first) (spelling anew.seeds ++ []), length-append (spelling anew.seeds) []);
      })

  -- it fits one block
  pub begins_fits : (events new : List Event) → AllByRecursion IsEvent events → Begins job moment events new → FitsBlock new
  begins_fits [] new all begins = anew_fits new begins
  begins_fits (e ∷ events) new all begins =
      let first = next_session job.settings (e ∷ events) moment in
      subst FitsBlock (sym begins)
      (record {
        some = omega arith;
        valid = (session_valid (e ∷ events) all, tt);
        short = omega (arith, session_spelled (e ∷ events) all, length-append (spelling first) []);
      })

-- and has a session
pub begins_session : (job : Job) (moment : ℕ) (events new : List Event) → Begins job moment events new → list_any is_session new ≡ true
begins_session job moment [] new begins = ap (λ (l : List Event). list_any is_session l) begins.is
begins_session job moment (e ∷ events) new begins = ap (λ (l : List Event). list_any is_session l) begins

-- where there was one event or more
none_is_empty : (events : List Event) → (length events == 0) ≡ true → events ≡ []
none_is_empty [] is = refl
none_is_empty (e ∷ events) is =
    let none : length (e ∷ events) ≡ 0 = eqb-true (length (e ∷ events)) 0 is in
    absurd (omega arith)

begins_again : (job : Job) (moment : ℕ) (events : List Event) → (length events == 0) ≡ false → Begins job moment events (next_session job.settings events moment ∷ [])
begins_again job moment [] is = absurd (false≢true (sym is))
begins_again job moment (e ∷ events) is = refl

pub begun_again : (job : Job) (moment : ℕ) (events all : List Event) (is_new : Bool) (s : Event) → is_new ≡ (length events == 0) → is_new ≡ false
    → s ≡ next_session job.settings events moment → all ≡ events ++ s ∷ [] → (new : List Event) × Begins job moment events new × (all ≡ events ++ new)
begun_again job moment events all is_new s test is made whole =
    (next_session job.settings events moment ∷ [], begins_again job moment events (sym test ∙ is), whole ∙ ap (λ (x : Event). events ++ x ∷ []) made)

-- and where there was none
pub alone : (events all : List Event) (is_new : Bool) (s : Event) → is_new ≡ (length events == 0) → is_new ≡ true → all ≡ events ++ s ∷ [] → all ≡ s ∷ []
alone events all is_new s test is whole = whole ∙ ap (λ (l : List Event). l ++ s ∷ []) (none_is_empty events (sym test ∙ is))

begins_anew : (job : Job) (moment : ℕ) (events : List Event) (seeds : Event) → events ≡ [] → AddsSeeds job.settings job.scope (events ++ next_session job.settings events moment ∷ []) job.seeds moment seeds
    → Begins job moment events (next_session job.settings events moment ∷ seeds ∷ [])
begins_anew job moment [] seeds none adds = record { seeds = seeds; adds = adds; is = refl }
begins_anew job moment (e ∷ events) seeds none adds = cc

pub begun_anew : (job : Job) (moment : ℕ) (events : List Event) (core : Core) (after : List Event) (is_new : Bool) (s : Event) → is_new ≡ (length events == 0) → is_new ≡ true
    → s ≡ next_session job.settings events moment → (core.settings ≡ job.settings) × (core.scope ≡ job.scope) × (core.events ≡ events ++ s ∷ [])
    → (e : Event) → AddsSeeds core.settings core.scope core.events job.seeds moment e → after ≡ core.events ++ e ∷ []
    → (new : List Event) × Begins job moment events new × (after ≡ events ++ new)
begun_anew job moment events core after is_new s test is made from e adds last =
    let first = next_session job.settings events moment in
    let whole : core.events ≡ events ++ first ∷ [] = from.2 ∙ ap (λ (x : Event). events ++ x ∷ []) made in
    let settings : AddsSeeds job.settings core.scope core.events job.seeds moment e = subst (λ (st : Settings). AddsSeeds st core.scope core.events job.seeds moment e) from.0 adds in
    let scope : AddsSeeds job.settings job.scope core.events job.seeds moment e = subst (λ (sc : ScopeRules). AddsSeeds job.settings sc core.events job.seeds moment e) from.1 settings in
    let own : AddsSeeds job.settings job.scope (events ++ first ∷ []) job.seeds moment e = subst (λ (es : List Event). AddsSeeds job.settings job.scope es job.seeds moment e) whole scope in (
      first ∷ e ∷ [],
      begins_anew job moment events e (none_is_empty events (sym test ∙ is)) own,
      last ∙ ap (λ (l : List Event). l ++ e ∷ []) whole ∙ append_assoc events (first ∷ []) (e ∷ []),
    )
