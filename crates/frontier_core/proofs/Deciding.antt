-- What is to be answered by what is kept is what the history answers.
use Rattle.std.proofs.Common.{◌≡◌, ℕ, ◌<◌, ◌≤◌, Bool, true, false, not, List, [], ◌∷◌, map, refl, sym, ◌∙◌, ap, subst, Option, Some, None}
use Rattle.std.specs.Prelude.{◌&&◌, is_some, if◌then◌else◌}
use Rattle.std.specs.BTreeMap.{BTreeMap, IsOrdered, values, is_at}
use Rattle.std.specs.Cmp.Lexicographic.{slice_cmp}
use Rattle.std.specs.Map.{lookup}
use Rattle.std.specs.Ordering.{nat_cmp}
use Rattle.std.proofs.lemmas.Bool.{le-leb, lt-leb}
use Rattle.crawl_kinds.specs.declared.settings.Settings.{Settings}
use Rattle.crawl_history.specs.Counts.{is_limit_met, is_retired}
use Rattle.crawl_history.specs.Emission.{Gives, NotYet, Over, answer, is_over, is_empty}
use Rattle.crawl_history.specs.Facts.{Archive}
use Rattle.crawl_history.specs.History.{History}
use Rattle.crawl_history.specs.Places.{is_waiting}
use Rattle.crawl_history.specs.Tickets.{emits_out, is_out}
use Rattle.crawl_history.specs.Waits.{wake}
use Rattle.core_facts.specs.CoreFacts.{Pages}
use Rattle.emission_laws.specs.Choice.{GoesNext}
use Rattle.emission_laws.specs.Laws.{NothingGoes, answer_at}
use Rattle.emission_laws.proofs.Answering as answering
use Rattle.emission_laws.proofs.Members.{from_contains}
use Rattle.emission_laws.proofs.Waiting.{ordinals-rise}
use Rattle.frontier_core.specs.Choosing.{chosen_add, kept_wake, IsFirst, IsLeast, GoesOut}
use Rattle.frontier_core.specs.Core.{Core, history, facts}
use Rattle.frontier_core.specs.Standing.{Stands}
use Rattle.frontier_core.specs.declared.choosing.Choice.{Choice}
use Rattle.frontier_core.specs.declared.robots.KeptRobots.{KeptRobots}
use Rattle.frontier_core.proofs.Firsts.{goes_next, none_goes, same_wakes}
use Rattle.frontier_core.proofs.Kept.{own_known}
use Rattle.frontier_core.proofs.Waking.{wakes}
use Rattle.frontier_memo.specs.Fits.{last_added}
use Rattle.frontier_memo.specs.Keeping.{known_at}
use Rattle.frontier_memo.specs.Memory.{Tells, Remembers, emission}
use Rattle.frontier_memo.specs.Sums.{class_at}
use Rattle.frontier_memo.specs.declared.known.Known.TheVariants as known
use Rattle.frontier_memo.specs.declared.known.Waiting.{Waiting}
use Rattle.frontier_memo.specs.declared.memo.Memo.{Memo}
use Rattle.frontier_memo.proofs.Outs.{none_under}
use Rattle.frontier_memo.proofs.Taking.{item_kept}

empty-map : {X Y : Type 0} (f : X → Y) (xs : List X) → is_empty (map f xs) ≡ is_empty xs
empty-map f [] = refl
empty-map f (x ∷ xs) = refl

not_out : (b c : Bool) → (not b && not c) ≡ true → c ≡ false
not_out true c e = cc
not_out false true e = cc
not_out false false e = refl

-- what goes first may be handed out
pub goes_out :
    (s : Settings) (v : List ℕ → ℕ) (h : History) (memo : Memo) → Remembers h memo → IsOrdered (slice_cmp nat_cmp) memo.places
    → (choice : Choice) → IsFirst s v h (values memo.places) choice → GoesOut h choice.own.now
goes_out s v h memo is ordered choice first =
    let w : Waiting = choice.own.now in
    let own : known_at memo.places w.item.key ≡ Some (known.Waits w) = own_known h memo is ordered w (from_contains (values memo.places) (known.Waits w) first.one) in
    let tells : Tells h w.item.key (Some (known.Waits w)) = subst (Tells h w.item.key) own (is.places w.item.key) in
    let added : last_added h w.item.key ≡ Some w.item = item_kept h w.item.key (Some (known.Waits w)) tells in
    record {
      fits = record {
        next = refl;
        waits = ap is_waiting (sym tells.place);
        added = added;
        idle = none_under h w.item is.outs added (not_out (is_retired s h w.item.class) (is_out h w.item.class) first.may);
      };
      tries = tells.waiting.tries;
    }

module _ (pages : Pages) (a : Archive) (core : Core) (memo : Memo) (is : Remembers (history core) memo) (t : ℕ) where
  -- as many are out
  pub out_same : is_empty memo.session.out.items ≡ is_empty (emits_out (history core))
  out_same = sym (empty-map emission memo.session.out.items) ∙ ap is_empty is.session.out

  -- where nothing may go
  pub nothing : NothingGoes (facts core pages) a (history core) t → answer (facts core pages) a (history core) t ≡ (if is_empty memo.session.out.items then Over else NotYet None)
  nothing none = none.answered ∙ ap (λ b. if b then Over else NotYet None) (sym out_same)

  pub limited : is_limit_met core.settings (history core) t ≡ true → NothingGoes (facts core pages) a (history core) t
  limited met = answering.limited (facts core pages) a (history core) t met

  pub over_out : is_empty memo.session.out.items ≡ false → is_over (facts core pages) a (history core) t ≡ false
  over_out some = answering.out (facts core pages) a (history core) t (sym out_same ∙ some)

  pub over_nothing : is_empty memo.session.out.items ≡ true → NothingGoes (facts core pages) a (history core) t → is_over (facts core pages) a (history core) t ≡ true
  over_nothing none nothing = nothing.over ∙ sym out_same ∙ none

  module _ (ordered : IsOrdered (slice_cmp nat_cmp) memo.places) (v : List ℕ → ℕ) where
    pub idle : IsLeast core.settings v (history core) (values memo.places) None → NothingGoes (facts core pages) a (history core) t
    idle least = answering.idle (facts core pages) a (history core) t (none_goes core.settings v (history core) memo is ordered (ordinals-rise core.events) least)

    pub over_live : (choice : Choice) → IsFirst core.settings v (history core) (values memo.places) choice → is_limit_met core.settings (history core) t ≡ false → is_over (facts core pages) a (history core) t ≡ false
    over_live choice first unmet =
        answering.live (facts core pages) a (history core) t (chosen_add choice) unmet
        (goes_next core.settings v (history core) memo is ordered (ordinals-rise core.events) choice first).waits first.may

    pub over_by_least :
        (o : Option Choice) (none : Bool) → is_some o ≡ not none → IsLeast core.settings v (history core) (values memo.places) o → is_empty memo.session.out.items ≡ true
        → is_limit_met core.settings (history core) t ≡ false → none ≡ is_over (facts core pages) a (history core) t
    over_by_least None true e least idles unmet = sym (over_nothing idles (idle least))
    over_by_least None false e least idles unmet = cc
    over_by_least (Some choice) true e first idles unmet = cc
    over_by_least (Some choice) false e first idles unmet = sym (over_live choice first unmet)

  module _
      (ordered : IsOrdered (slice_cmp nat_cmp) memo.places) (robots : BTreeMap (List ℕ) KeptRobots) (same : core.robots ≡ robots.entries) (stands : Stands pages a core)
      (unmet : is_limit_met core.settings (history core) t ≡ false) (choice : Choice)
      (first : IsFirst core.settings (kept_wake core.settings memo.session (class_at robots)) (history core) (values memo.places) choice) where
    kept_wakes : (class : List ℕ) → kept_wake core.settings memo.session (class_at robots) class ≡ wake (facts core pages) a (history core) class
    kept_wakes class =
        ap (λ (es : List (List ℕ × KeptRobots)). kept_wake core.settings memo.session (λ k. lookup (is_at (slice_cmp nat_cmp k)) es) class) (sym same)
        ∙ wakes pages a core memo.session is.session stands class

    next : GoesNext core.settings (wake (facts core pages) a (history core)) (history core) (chosen_add choice)
    next =
        same_wakes core.settings (kept_wake core.settings memo.session (class_at robots)) (wake (facts core pages) a (history core)) (history core) (chosen_add choice) kept_wakes
        (goes_next core.settings (kept_wake core.settings memo.session (class_at robots)) (history core) memo is ordered (ordinals-rise core.events) choice first)

    chosen : answer (facts core pages) a (history core) t ≡ answer_at choice.wake t (chosen_add choice)
    chosen =
        answering.least (facts core pages) a (history core) t (chosen_add choice) unmet (ordinals-rise core.events) next
        ∙ ap (λ n. answer_at n t (chosen_add choice)) (sym (first.wake ∙ kept_wakes choice.own.now.item.class))

    pub goes : choice.wake ≤ t → answer (facts core pages) a (history core) t ≡ Gives choice.own.now.item
    goes due = chosen ∙ ap (λ b. if b then Gives choice.own.now.item else NotYet (Some choice.wake)) (le-leb choice.wake t due)

    pub snoozes : t < choice.wake → answer (facts core pages) a (history core) t ≡ NotYet (Some choice.wake)
    snoozes early = chosen ∙ ap (λ b. if b then Gives choice.own.now.item else NotYet (Some choice.wake)) (lt-leb choice.wake t early)
