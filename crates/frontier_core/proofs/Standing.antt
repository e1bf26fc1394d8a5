-- What is kept of robots files, against the history.
use Rattle.std.proofs.Common.{◌≡◌, ℕ, ◌+◌, Bool, true, false, ◌==◌, List, [], ◌∷◌, ◌++◌, take, refl, sym, ◌∙◌, ap, subst, Option, Some, None}
use Rattle.std.specs.Prelude.{◌&&◌, bytes_eq, nat_le, option_and_then, option_to_list, if◌then◌else◌}
use Rattle.std.specs.BTreeMap.{BTreeMap, IsOrdered, is_at}
use Rattle.std.specs.Cmp.Lexicographic.{slice_cmp}
use Rattle.std.specs.Map.{lookup}
use Rattle.std.specs.Option.{option_or}
use Rattle.std.specs.Ordering.{nat_cmp}
use Rattle.crawl_kinds.specs.declared.event.Outcome.TheVariants.{Success, Failure}
use Rattle.crawl_kinds.specs.declared.event.Event.{Event}
use Rattle.crawl_kinds.specs.declared.event.Event.TheVariants.{Session}
use Rattle.crawl_kinds.specs.Event.{Finishing, finish_of}
use Rattle.crawl_history.specs.Facts.{Facts, Archive}
use Rattle.crawl_history.specs.History.{History, history_of, is_session, session_finishes}
use Rattle.crawl_history.specs.History as step
use Rattle.crawl_history.specs.Outcomes.{is_prerequisite, is_success_or_failure}
use Rattle.crawl_history.specs.Robots.{RobotsState, NotKnown, NotReached, Rules, AllAllowed, cited_block, is_robots_finish, redirect_of, robots_bytes, robots_finish, robots_life, robots_state, state_by, state_by_outcome, state_by_redirect, state_by_status, status_class}
use Rattle.crawl_history.specs.Queues.{in_class}
use Rattle.crawl_history.specs.Scans.{last_of}
use Rattle.crawl_history.specs.Verdicts.{verdict_by, delay_by}
use Rattle.history_steps.proofs.Lists.{last_of-snoc}
use Rattle.history_steps.proofs.Sessions.{session_finishes-with_event}
use Rattle.std.proofs.lemmas.Cmp.{nat_list_cmp_total}
use Rattle.std.proofs.lemmas.List.{append-nil}
use Rattle.std.proofs.lemmas.Map.Lookups.{btree_map_from_get, exact_bytes}
use Rattle.std.proofs.lemmas.Slice.Eq.{bytes_eq-Decides}
use Rattle.frontier_memo.specs.Sums.{class_at}
use Rattle.robots_spec.specs.Groups.{agent_rules}
use Rattle.core_facts.specs.CoreFacts.{Pages}
use Rattle.frontier_core.specs.Core.{Core, facts, history, robots_at, with_event}
use Rattle.frontier_core.specs.Robots.{said_by_status, verdict_said, delay_said}
use Rattle.frontier_core.specs.Standing.{EndsWith, HasNoRobots, Leaves, LeavesEnd, SaysSame, Stands, kept_over}
use Rattle.frontier_core.specs.declared.robots.KeptRobots.{KeptRobots}
use Rattle.frontier_core.specs.declared.robots.RobotsSay.{RobotsSay}
use Rattle.frontier_core.specs.declared.robots.RobotsSay.TheVariants as says

-- ---- the end of a robots file

-- what is said stands for a state
record IsSaid (f : Facts) (state : RobotsState) (said : Option RobotsSay) : Type 0 where
  verdict : (uri : List ℕ) → verdict_by f uri state ≡ verdict_said said uri
  delay : delay_by f state ≡ delay_said said

-- what is said of an end holds for a day
said_for_a_day :
    (f : Facts) (a : Archive) (c : Finishing) (say : RobotsSay) → IsSaid f (state_by_outcome f a c c.end.outcome) (Some say)
    → SaysSame f (λ t. state_by f a t (Some c)) (Some (record { time = c.time; says = say }))
said_for_a_day f a c say is =
    record {
      verdicts = λ t uri. verdict_by_age t uri (nat_le (c.time + robots_life) t);
      delays = λ t. delay_by_age t (nat_le (c.time + robots_life) t);
    }
  where
    verdict_by_age :
        (t : ℕ) (uri : List ℕ) (b : Bool)
        → verdict_by f uri (if b then NotKnown else state_by_outcome f a c c.end.outcome) ≡ verdict_said (if b then None else Some say) uri
    verdict_by_age t uri true = refl
    verdict_by_age t uri false = is.verdict uri

    delay_by_age : (t : ℕ) (b : Bool) → delay_by f (if b then NotKnown else state_by_outcome f a c c.end.outcome) ≡ delay_said (if b then None else Some say)
    delay_by_age t true = refl
    delay_by_age t false = is.delay

module _ (core : Core) (pages : Pages) (a : Archive) (c : Finishing) (payload : List ℕ) (same : payload ≡ pages.payload (cited_block a c.end.body)) where
  -- a redirect allows all, whether it is followed or not
  redirected : (next : Option (List ℕ)) → IsSaid (facts core pages) (state_by_redirect next) (Some says.Open)
  redirected None = record { verdict = λ uri. refl; delay = refl }
  redirected (Some uri) = record { verdict = λ uri. refl; delay = refl }

  came : IsSaid (facts core pages) (state_by_status (facts core pages) a c) (Some (said_by_status core.settings.agent (status_class c) payload))
  came = subst (λ text. IsSaid (facts core pages) (state_by_status (facts core pages) a c) (Some (said_by_status core.settings.agent (status_class c) text))) (sym same)
      (by_status (status_class c == 5) (status_class c == 2) (status_class c == 3))
    where
      by_status :
          (b5 b2 b3 : Bool)
          → IsSaid (facts core pages)
          (if b5 then NotReached else if b2 then Rules (take robots_bytes (pages.payload (cited_block a c.end.body))) else if b3 then state_by_redirect (redirect_of (facts core pages) a c) else AllAllowed)
          (Some (if b5 then says.Closed else if b2 then says.Rules (agent_rules (take robots_bytes (pages.payload (cited_block a c.end.body))) core.settings.agent) else says.Open))
      by_status true b2 b3 = record { verdict = λ uri. refl; delay = refl }
      by_status false true b3 = record { verdict = λ uri. refl; delay = refl }
      by_status false false true = redirected (redirect_of (facts core pages) a c)
      by_status false false false = record { verdict = λ uri. refl; delay = refl }

  pub leaves_success :
      (time : ℕ) (say : RobotsSay) → c.end.outcome ≡ Success → c.time ≡ time → say ≡ said_by_status core.settings.agent (status_class c) payload
      → Leaves (facts core pages) a c (Some (record { time = time; says = say }))
  leaves_success time say is at said = (
    ap is_success_or_failure is,
    subst (λ t. SaysSame (facts core pages) (λ t'. state_by (facts core pages) a t' (Some c)) (Some (record { time = t; says = say }))) at
        (said_for_a_day (facts core pages) a c say
        (subst (λ o. IsSaid (facts core pages) (state_by_outcome (facts core pages) a c o) (Some say)) (sym is)
        (subst (λ s. IsSaid (facts core pages) (state_by_status (facts core pages) a c) (Some s)) (sym said) came))),
  )

  pub leaves_failure : (time : ℕ) → c.end.outcome ≡ Failure → c.time ≡ time → Leaves (facts core pages) a c (Some (record { time = time; says = says.Closed }))
  leaves_failure time is at = (
    ap is_success_or_failure is,
    subst (λ t. SaysSame (facts core pages) (λ t'. state_by (facts core pages) a t' (Some c)) (Some (record { time = t; says = says.Closed }))) at
        (said_for_a_day (facts core pages) a c says.Closed
        (subst (λ o. IsSaid (facts core pages) (state_by_outcome (facts core pages) a c o) (Some says.Closed)) (sym is) (record { verdict = λ uri. refl; delay = refl }))),
  )

-- ---- one event more

-- where no robots file came, nothing is known
pub stands_fresh : (core : Core) → HasNoRobots core.events → core.robots ≡ [] → (pages : Pages) (a : Archive) → Stands pages a core
stands_fresh core none empty pages a class =
    subst (λ o. SaysSame (facts core pages) (λ t. state_by (facts core pages) a t o) (robots_at core class)) (sym (none class))
    (subst (λ es. SaysSame (facts core pages) (λ t. NotKnown) (lookup (is_at (slice_cmp nat_cmp class)) es)) (sym empty)
    (record { verdicts = λ t uri. refl; delays = λ t. refl }))

pub fresh_session : (events : List Event) (time : ℕ) (job : List ℕ) (format : ℕ) → HasNoRobots (events ++ Session time job format ∷ [])
fresh_session events time job format class =
    ap (last_of (λ c. if is_robots_finish class c then Some c else None)) (session_finishes-with_event (history_of events) (Session time job format))

-- the last robots file of a class, after one event more that is no session
finish_more :
    (h : History) (e : Event) (o : Option Finishing) (class : List ℕ) → is_session e ≡ false → finish_of e ≡ o
    → robots_finish (step.with_event h e) class ≡ option_or (option_and_then (λ c. if is_robots_finish class c then Some c else None) o) (robots_finish h class)
finish_more h e o class goes ends =
    ap (last_of f)
    (session_finishes-with_event h e ∙ ap (λ b. if b then [] else session_finishes h ++ option_to_list (finish_of e)) goes
    ∙ ap (λ o. session_finishes h ++ option_to_list o) ends)
    ∙ by_finish o
  where
    f : Finishing → Option Finishing
    f c = if is_robots_finish class c then Some c else None

    by_finish : (o : Option Finishing) → last_of f (session_finishes h ++ option_to_list o) ≡ option_or (option_and_then f o) (last_of f (session_finishes h))
    by_finish None = ap (last_of f) (append-nil (session_finishes h))
    by_finish (Some c) = last_of-snoc f (session_finishes h) c

module _ (pages : Pages) (a : Archive) (core : Core) (e : Event) (goes : is_session e ≡ false) (is : Stands pages a core) where
  pub stands_still : finish_of e ≡ None → Stands pages a (with_event core e)
  stands_still ends class =
      subst (λ o. SaysSame (facts core pages) (λ t. state_by (facts core pages) a t o) (robots_at core class))
      (sym (finish_more (history core) e None class goes ends)) (is class)

-- ---- an end

-- what is to be kept of the end of a robots file is so of any end of one
pub leaves_end :
    (f : Facts) (a : Archive) (c : Finishing) → is_prerequisite c.item ≡ true → (kept : Option KeptRobots) → Leaves f a c kept → LeavesEnd f a c kept
leaves_end f a c robots None leaves = ap (λ b. b && is_success_or_failure c.end.outcome) robots ∙ leaves
leaves_end f a c robots (Some kept) leaves = (ap (λ b. b && is_success_or_failure c.end.outcome) robots ∙ leaves.0, leaves.1)

pub same_core : (x y : Core) → x.settings ≡ y.settings → x.scope ≡ y.scope → x.events ≡ y.events → x.robots ≡ y.robots → x ≡ y
same_core x y s p e r i = record { settings = s i; scope = p i; events = e i; robots = r i }

module _ (pages : Pages) (a : Archive) (old : Core) (c : Finishing) (stands : Stands pages a old) (class : List ℕ) where
  abbrev h : History
  h = history old

  -- what the states of the class say, with or without this end
  abbrev Says : Bool → Option KeptRobots → Type 0
  Says b kept = SaysSame (facts old pages) (λ t. state_by (facts old pages) a t (option_or (if b then Some c else None) (robots_finish h class))) kept

  none_kept : (x y z : Bool) → (y && z) ≡ false → Says ((x && y) && z) (robots_at old class)
  none_kept false y z is = stands class
  none_kept true false z is = stands class
  none_kept true true false is = stands class
  none_kept true true true is = cc

  some_kept :
      (kept : KeptRobots) → SaysSame (facts old pages) (λ t. state_by (facts old pages) a t (Some c)) (Some kept)
      → (x y z : Bool) → (y && z) ≡ true → Says ((x && y) && z) (if x then Some kept else robots_at old class)
  some_kept kept says false y z is = stands class
  some_kept kept says true true true is = says
  some_kept kept says true true false is = cc
  some_kept kept says true false z is = cc

  class_stands : (kept : Option KeptRobots) → LeavesEnd (facts old pages) a c kept → Says (is_robots_finish class c) (kept_over kept c.item.class class (robots_at old class))
  class_stands None leaves = none_kept (in_class class c.item) (is_prerequisite c.item) (is_success_or_failure c.end.outcome) leaves
  class_stands (Some kept) leaves = some_kept kept leaves.1 (in_class class c.item) (is_prerequisite c.item) (is_success_or_failure c.end.outcome) leaves.0

-- with what is to be kept of an end, the core still stands
pub stands_ended :
    (pages : Pages) (a : Archive) (old new : Core) (c : Finishing) (e : Event) (kept : Option KeptRobots) → is_session e ≡ false → finish_of e ≡ Some c
    → LeavesEnd (facts old pages) a c kept → EndsWith old new e c.item.class kept → Stands pages a old → Stands pages a new
stands_ended pages a old new c e kept goes ends leaves is stands class =
    subst (λ (core : Core). SaysSame (facts core pages) (robots_state (facts core pages) a (history core) class) (robots_at core class))
    (same_core mid new (sym is.settings) (sym is.scope) (sym is.events) refl)
    (subst (λ o. SaysSame (facts old pages) (λ t. state_by (facts old pages) a t o) (robots_at new class)) (sym (finish_more (history old) e (Some c) class goes ends))
    (subst (λ k. SaysSame (facts old pages) (λ t. state_by (facts old pages) a t (option_or (if is_robots_finish class c then Some c else None) (robots_finish (history old) class))) k)
    (sym (is.robots class)) (class_stands pages a old c stands class kept leaves)))
  where
    mid : Core
    mid = record { settings = old.settings; scope = old.scope; events = old.events ++ e ∷ []; robots = new.robots }

-- ---- a core that is as before

-- what is kept of each class, in order, is one list
pub same_robots :
    (m n : BTreeMap (List ℕ) KeptRobots) → IsOrdered (slice_cmp nat_cmp) m → IsOrdered (slice_cmp nat_cmp) n
    → ((q : List ℕ) → class_at m q ≡ class_at n q) → m.entries ≡ n.entries
same_robots m n s t same = btree_map_from_get nat_list_cmp_total m n s t same exact_bytes

-- what was kept of a class, put over what was put over it, is what is kept of each class
pub back_again :
    (robots : BTreeMap (List ℕ) KeptRobots) (class q : List ℕ) (before over after : Option KeptRobots) (kept : KeptRobots) → before ≡ class_at robots class
    → over ≡ (if bytes_eq class q then Some kept else class_at robots q) → after ≡ (if bytes_eq class q then before else over) → after ≡ class_at robots q
back_again robots class q before over after kept was is back =
    back ∙ ap (λ o. if bytes_eq class q then before else o) is ∙ by_test (bytes_eq class q) refl
  where
    by_test : (b : Bool) → bytes_eq class q ≡ b → (if b then before else if b then Some kept else class_at robots q) ≡ class_at robots q
    by_test true same = was ∙ ap (class_at robots) ((bytes_eq-Decides class q).0 same)
    by_test false same = refl
