-- What was handed out is out, and stays so until its own finish or the next session.
use Rattle.std.proofs.Common.{◌≡◌, ℕ, ◌+◌, ◌≤◌, Bool, true, false, ◌||◌, not, ◌==◌, cond, List, [], ◌∷◌, ◌++◌, refl, sym, ◌∙◌, ap, Option, Some, None, arith}
use Rattle.std.specs.Prelude.{filter, find, IfSome, if◌then◌else◌}
use Rattle.std.specs.List.{list_any, AllByRecursion}
use Rattle.std.proofs.lemmas.Bool.Decides.{Decides-eqb}
use Rattle.crawl_kinds.specs.declared.event.Event.{Event}
use Rattle.crawl_kinds.specs.declared.event.Event.TheVariants.{Emit}
use Rattle.crawl_kinds.specs.Event.{emit_of, finish_of, Emission, Finishing}
use Rattle.crawl_history.specs.History.{History, history_of, is_session, session_finishes, ticket_count, with_event}
use Rattle.crawl_history.specs.Tickets.{emits_out, emit_out}
use Rattle.history_steps.specs.ScansStep.{ends_emit, out_by}
use Rattle.history_steps.proofs.Sessions.{emits_out-with_event}
use Rattle.frontier_core.specs.Core.{Core, history}
use Rattle.frontier_core.specs.Emitting.{emission_of, IsHeld}
use Rattle.frontier_core.specs.declared.emitted.Emitted.{Emitted}
use Rattle.frontier_memo.proofs.Lists.{filter-all}

-- a ticket that was given is not the next one
not_next : (n t x : ℕ) → x ≤ n → t ≡ n + 1 → (x == t) ≡ false
not_next n t x le is = by_test (x == t) refl
  where
    by_test : (b : Bool) → (x == t) ≡ b → (x == t) ≡ false
    by_test true h = let same : x ≡ t = (Decides-eqb x t).0 h in absurd (omega (arith, same, is, le))
    by_test false h = h

find_behind : {X : Type 0} (p : X → Bool) (xs : List X) (x : X) → AllByRecursion (λ y. p y ≡ false) xs → p x ≡ true → find p (xs ++ x ∷ []) ≡ Some x
find_behind p [] x none is = ap (λ b. cond b (Some x) None) is
find_behind p (y ∷ xs) x none is = ap (λ b. cond b (Some y) (find p (xs ++ x ∷ []))) none.0 ∙ find_behind p xs x none.1 is

find_before : {X : Type 0} (p : X → Bool) (xs ys : List X) (x : X) → find p xs ≡ Some x → find p (xs ++ ys) ≡ Some x
find_before p [] ys x is = cc
find_before {X} p (y ∷ xs) ys x is = by_test (p y) is (find_before p xs ys x)
  where
    by_test : (b : Bool) → cond b (Some y) (find p xs) ≡ Some x → (find p xs ≡ Some x → find p (xs ++ ys) ≡ Some x) → cond b (Some y) (find p (xs ++ ys)) ≡ Some x
    by_test true is later = is
    by_test false is later = later is

find_kept : {X : Type 0} (p q : X → Bool) → ((x : X) → p x ≡ true → q x ≡ true) → (xs : List X) (x : X) → find p xs ≡ Some x → find p (filter q xs) ≡ Some x
find_kept p q same [] x is = cc
find_kept {X} p q same (y ∷ xs) x is = by_test (p y) (q y) refl refl is (find_kept p q same xs x)
  where
    by_test :
        (b c : Bool) → p y ≡ b → q y ≡ c → cond b (Some y) (find p xs) ≡ Some x → (find p xs ≡ Some x → find p (filter q xs) ≡ Some x)
        → find p (cond c (y ∷ filter q xs) (filter q xs)) ≡ Some x
    by_test true true h k is later = ap (λ b. cond b (Some y) (find p (filter q xs))) h ∙ is
    by_test true false h k is later = let clash : true ≡ false = sym (same y h) ∙ k in cc
    by_test false true h k is later = ap (λ b. cond b (Some y) (find p (filter q xs))) h ∙ later is
    by_test false false h k is later = later is

any_none : {X : Type 0} (p : X → Bool) (xs : List X) → AllByRecursion (λ x. p x ≡ false) xs → list_any p xs ≡ false
any_none p [] none = refl
any_none p (x ∷ xs) none = ap (λ b. b || list_any p xs) none.0 ∙ any_none p xs none.1

all-weaker : {X : Type 0} (P Q : X → Type 0) → ((x : X) → P x → Q x) → (xs : List X) → AllByRecursion P xs → AllByRecursion Q xs
all-weaker P Q w [] all = tt
all-weaker P Q w (x ∷ xs) all = (w x all.0, all-weaker P Q w xs all.1)

-- what goes out under the next ticket is out
pub held_now :
    (h : History) (m : Emission) → m.ticket ≡ ticket_count h + 1 → AllByRecursion (λ x. x.ticket ≤ ticket_count h) (emits_out h)
    → AllByRecursion (λ c. c.ticket ≤ ticket_count h) (session_finishes h)
    → emit_out (with_event h (Emit m.time m.caller m.ticket m.verdict m.item)) m.ticket ≡ Some m
held_now h m next given ended =
    ap (find p)
    (emits_out-with_event h (Emit m.time m.caller m.ticket m.verdict m.item)
    ∙ ap (λ xs. xs ++ out_by h (Some m)) (filter-all (λ x. not (ends_emit None x)) (λ x. refl) (emits_out h))
    ∙ ap (λ b. emits_out h ++ cond (not b) (m ∷ []) []) (any_none (λ c. c.ticket == m.ticket) (session_finishes h) (all-weaker _ _ (λ c le. not_next (ticket_count h) m.ticket c.ticket le next) (session_finishes h) ended)))
    ∙ find_behind p (emits_out h) m (all-weaker _ _ (λ x le. not_next (ticket_count h) m.ticket x.ticket le next) (emits_out h) given) ((Decides-eqb m.ticket m.ticket).1 refl)
  where
    p : Emission → Bool
    p x = x.ticket == m.ticket

-- what is out stays so through an event that begins no session and has no finish of its ticket
pub held_still :
    (h : History) (e : Event) (ticket : ℕ) (m : Emission) → is_session e ≡ false → IfSome (finish_of e) (λ c. (c.ticket == ticket) ≡ false)
    → emit_out h ticket ≡ Some m → emit_out (with_event h e) ticket ≡ Some m
held_still h e ticket m goes other is =
    ap (find p)
    (emits_out-with_event h e ∙ ap (λ b. if b then [] else filter (λ x. not (ends_emit (finish_of e) x)) (emits_out h) ++ out_by h (emit_of e)) goes)
    ∙ find_before p (filter (λ x. not (ends_emit (finish_of e) x)) (emits_out h)) (out_by h (emit_of e)) m
    (find_kept p (λ x. not (ends_emit (finish_of e) x)) (kept (finish_of e) other) (emits_out h) m is)
  where
    p : Emission → Bool
    p x = x.ticket == ticket

    kept : (o : Option Finishing) → IfSome o (λ c. (c.ticket == ticket) ≡ false) → (x : Emission) → p x ≡ true → not (ends_emit o x) ≡ true
    kept None other x is = refl
    kept (Some c) other x is =
        ap (λ t. not ((c.ticket == t) || false)) ((Decides-eqb x.ticket ticket).0 is) ∙ ap (λ b. not (b || false)) other

pub held_stays :
    (old new : Core) (e : Event) (one : Emitted) → new.events ≡ old.events ++ e ∷ [] → is_session e ≡ false
    → IfSome (finish_of e) (λ c. (c.ticket == one.ticket) ≡ false) → IsHeld old one → IsHeld new one
held_stays old new e one more goes other held =
    ap (λ (events : List Event). emit_out (history_of events) one.ticket) more ∙ held_still (history old) e one.ticket (emission_of one) goes other held
