-- Which of the events that an opening folds can't stand.
use Rattle.std.proofs.Common.{◌≡◌, ℕ, suc, zero, ◌<◌, true, List, [], ◌∷◌, ◌++◌, take, length, refl, sym, ◌∙◌, ap, subst, Some, arith, ⊎_elim, length-append}
use Rattle.std.specs.Prelude.{slice_get}
use Rattle.std.proofs.lemmas.Bool.{cases_lt}
use Rattle.std.proofs.lemmas.List.{take-append-le}
use Rattle.std.proofs.lemmas.Option.{slice_get_within}
use Rattle.crawl_kinds.specs.declared.event.Event.{Event}
use Rattle.crawl_kinds.specs.declared.event.Event.TheVariants.{Session, Seeds, Emit, Finish}
use Rattle.crawl_kinds.specs.declared.item.Item.{Item}
use Rattle.crawl_history.specs.History.{History, history_of, is_session}
use Rattle.frontier_memo.specs.Fits.{AllFit, Fits, IsFirstUnfit}
use Rattle.recover_journal.specs.Holds.{journal_file}
use Rattle.crawl_traits.specs.declared.fault.StoreFault.{StoreFault}
use Rattle.crawl_traits.specs.declared.fault.StoreFault.TheVariants.{Volume, Damaged, NoMemory}
use Rattle.open_crawl.specs.Damage.{IsUnfitAt}
use Rattle.open_crawl.specs.Faults.{IsDamageOf}

get_before : {X : Type 0} (xs ys : List X) (i : ℕ) → i < length xs → slice_get (xs ++ ys) i ≡ slice_get xs i
get_before [] ys i lt = absurd (omega arith)
get_before (x ∷ xs) ys zero lt = refl
get_before (x ∷ xs) ys (suc i) lt = get_before xs ys i (omega arith)

get_last : {X : Type 0} (xs : List X) (x : X) → slice_get (xs ++ x ∷ []) (length xs) ≡ Some x
get_last [] x = refl
get_last (y ∷ xs) x = get_last xs x

no_item : (earlier later : List Item) (item : Item) → [] ≡ earlier ++ item ∷ later → ⊥
no_item [] later item e = cc
no_item (x ∷ earlier) later item e = cc

-- a session may always stand
session_fits : (h : History) (e : Event) → is_session e ≡ true → Fits h e
session_fits h (Session time job format) is = record { kind = tt; adds = λ earlier later item none. absurd (no_item earlier later item none) }
session_fits h (Seeds time list adds) is = cc
session_fits h (Emit time caller ticket verdict item) is = cc
session_fits h (Finish time caller ticket item end adds) is = cc

-- so the first unfit event of events and a session is one of these events
unfit_before : (events : List Event) (session : Event) (i : ℕ) → is_session session ≡ true → IsFirstUnfit (events ++ session ∷ []) i → (i < length events) × IsFirstUnfit events i
unfit_before events session i is bad =
    let all = events ++ session ∷ [] in
    ⊎_elim
    (λ lt.
    let front : take i all ≡ take i events = take-append-le i events (session ∷ []) (omega arith) in (
      lt,
      record {
        event = bad.event;
        stands = sym (get_before events (session ∷ []) i lt) ∙ bad.stands;
        unfit = subst (λ (es : List Event). Fits (history_of es) bad.event → ⊥) front bad.unfit;
        before = subst (λ (es : List Event). AllFit es) front bad.before;
      },
    ))
    (λ le.
    let last : length events ≡ i = omega (arith, slice_get_within all i bad.event bad.stands, length-append events (session ∷ [])) in
    let one : Some session ≡ Some bad.event = sym (get_last events session) ∙ ap (slice_get all) last ∙ bad.stands in
    let same : session ≡ bad.event = cc in
    absurd (bad.unfit (subst (λ (e : Event). Fits (history_of (take i all)) e) same (session_fits (history_of (take i all)) session is))))
    (cases_lt i (length events))

-- its gate is one of the gates, and names it
pub unfit_within : (events : List Event) (gates : List ℕ) (session : Event) (all : List Event) (i : ℕ) → is_session session ≡ true → all ≡ events ++ session ∷ [] → length gates ≡ length events → IsFirstUnfit all i
    → (i < length gates) × IsFirstUnfit events i
unfit_within events gates session all i is whole same bad =
    let own : (i < length events) × IsFirstUnfit events i = unfit_before events session i is (subst (λ (es : List Event). IsFirstUnfit es i) whole bad) in
    (omega (arith, own.0), own.1)

pub unfit_named : (events : List Event) (gates : List ℕ) (i : ℕ) (fault : StoreFault) → IsDamageOf journal_file (λ at. slice_get gates i ≡ Some at) fault → IsFirstUnfit events i
    → IsDamageOf journal_file (IsUnfitAt events gates) fault
unfit_named events gates i Volume named bad = tt
unfit_named events gates i (Damaged of_file at) named bad = (named.0, record { index = i; unfit = bad; gate = named.1 })
unfit_named events gates i NoMemory named bad = tt

-- events that fit, without the last ones
pub fit_front : (events more : List Event) → AllFit (events ++ more) → AllFit events
fit_front events more all i e at =
    let lt : i < length events = slice_get_within events i e at in
    subst (λ (es : List Event). Fits (history_of es) e) (take-append-le i events more (omega arith)) (all i e (get_before events more i lt ∙ at))
