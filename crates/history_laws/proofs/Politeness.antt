-- Every legal history is polite.
--     OpenEmit       what holds of an emit of this session
--     ClassCalm      what holds of a class in this session
--     Calm           both, of all, and that no finish has a ticket that was not given
use Rattle.std.proofs.Common.{◌≡◌, ℕ, ◌+◌, Bool, true, false, ◌&&◌, ◌||◌, not, cond, List, [], ◌∷◌, ◌++◌, refl, sym, ◌∙◌, ap, subst, arith, Option, Some, None}
use Rattle.std.specs.Prelude.{filter, filter_map, bytes_eq, find, if◌then◌else◌, nat_le, ◌==◌}
use Rattle.std.specs.List.{list_any, AllByRecursion, cons_option}
use Rattle.std.specs.Option.{option_or}
use Rattle.std.proofs.lemmas.Grind.{common_steps}
use Rattle.std.proofs.lemmas.List.{append-nil}
use Rattle.std.proofs.lemmas.List.Elements.{filter_map-append, filter-append}
use Rattle.std.proofs.lemmas.List.Folds.{list_any-append}
use Rattle.std.proofs.lemmas.Slice.Eq.{bytes_eq-Decides}
use Rattle.crawl_kinds.specs.declared.event.Event.{Event}
use Rattle.crawl_kinds.specs.Event.{finish_of, Emission, Finishing}
use Rattle.crawl_history.specs.Facts.{Facts, Archive}
use Rattle.crawl_history.specs.History.{history_of, session_finishes}
use Rattle.crawl_history.specs.Outcomes.{is_prerequisite, is_success_or_failure}
use Rattle.crawl_history.specs.Queues.{in_class}
use Rattle.crawl_history.specs.Robots.{state_by}
use Rattle.crawl_history.specs.Scans.{last_of, through}
use Rattle.crawl_history.specs.Waits.{wait_by, capped}
use Rattle.history_promises.specs.Polite.{has_ticket, due_after}
use Rattle.history_steps.proofs.Lists.{last_of-snoc}
use Rattle.history_laws.proofs.Emits.{finished, hits, last_emit, last_end, open_emits, has_open, robots_end, wait_in, Bounded, above_none, one_above, number_itself, same_number, finished-next, through-next}
use Rattle.history_laws.proofs.Lists.{clash, same_some, bytes_itself, through-found, through-not_found, find-found, find-not_found, all-append, all-mono, all-both}

-- ---- what holds so far

-- of an emit: its ticket was given and is its own; while it is out it is the last of its class, and no event finishes it
pub record OpenEmit (emits : List Emission) (ends : List Finishing) (count : ℕ) (events : List Event) (m : Emission) : Type 0 where
  pub given : nat_le m.ticket count ≡ true
  pub own : find (λ x. x.ticket == m.ticket) emits ≡ Some m
  pub latest : finished ends m.ticket ≡ false → last_emit m.item.class emits ≡ Some m
  pub unfinished : finished ends m.ticket ≡ false → through (hits m.ticket) events ≡ None

-- the finish of the emit is the last of its class, and its wait is as it was when it came
pub record Due (f : Facts) (a : Archive) (ends : List Finishing) (events : List Event) (k : List ℕ) (m : Emission) (c : Finishing) (front : List Event) : Type 0 where
  pub last : last_end k ends ≡ Some c
  pub found : through (hits m.ticket) events ≡ Some front
  pub same : due_after f a (history_of front) (last_of finish_of front) ≡ capped (c.time + wait_in f a ends c)

-- of a class: without an emit there is no finish; where its last emit is not out, its finish is due
pub record ClassCalm (f : Facts) (a : Archive) (emits : List Emission) (ends : List Finishing) (events : List Event) (k : List ℕ) : Type 0 where
  pub none : last_emit k emits ≡ None → last_end k ends ≡ None
  pub due : (m : Emission) → last_emit k emits ≡ Some m → has_open emits ends k ≡ false → (c : Finishing) × (front : List Event) × Due f a ends events k m c front

pub record Calm (f : Facts) (a : Archive) (emits : List Emission) (ends : List Finishing) (count : ℕ) (events : List Event) : Type 0 where
  pub ends_given : Bounded count ends
  pub all_given : Bounded count (filter_map finish_of events)
  pub open_emits_hold : AllByRecursion (OpenEmit emits ends count events) emits
  pub classes : (k : List ℕ) → ClassCalm f a emits ends events k

-- ---- an event that is no finish

finishes-quiet : (events : List Event) (e : Event) → finish_of e ≡ None → filter_map finish_of (events ++ e ∷ []) ≡ filter_map finish_of events
finishes-quiet events e quiet = filter_map-append finish_of events (e ∷ []) ∙ ap (λ o. filter_map finish_of events ++ cons_option o []) quiet ∙ append-nil (filter_map finish_of events)

through-quiet : (n : ℕ) (events : List Event) (e : Event) → finish_of e ≡ None → through (hits n) events ≡ None → through (hits n) (events ++ e ∷ []) ≡ None
through-quiet n events e quiet h = through-not_found (hits n) events e h ∙ ap (λ o. if has_ticket n o then Some (events ++ e ∷ []) else None) quiet

due-quiet : (f : Facts) (a : Archive) (ends : List Finishing) (events : List Event) (e : Event) (k : List ℕ) (m : Emission) (c : Finishing) (front : List Event) → Due f a ends events k m c front → Due f a ends (events ++ e ∷ []) k m c front
due-quiet f a ends events e k m c front due = record { last = due.last; found = through-found (hits m.ticket) events (e ∷ []) front due.found; same = due.same }

-- a session begins
pub calm-session : (f : Facts) (a : Archive) (emits : List Emission) (ends : List Finishing) (count : ℕ) (events : List Event) (e : Event) → finish_of e ≡ None → Calm f a emits ends count events → Calm f a [] [] count (events ++ e ∷ [])
calm-session f a emits ends count events e quiet calm =
    record {
      ends_given = tt;
      all_given = subst (Bounded count) (sym (finishes-quiet events e quiet)) calm.all_given;
      open_emits_hold = tt;
      classes = λ k. record { none = λ h. refl; due = λ m h. cc h };
    }

-- seeds are added
pub calm-quiet : (f : Facts) (a : Archive) (emits : List Emission) (ends : List Finishing) (count : ℕ) (events : List Event) (e : Event) → finish_of e ≡ None → Calm f a emits ends count events → Calm f a emits ends count (events ++ e ∷ [])
calm-quiet f a emits ends count events e quiet calm =
    record {
      ends_given = calm.ends_given;
      all_given = subst (Bounded count) (sym (finishes-quiet events e quiet)) calm.all_given;
      open_emits_hold =
          all-mono (OpenEmit emits ends count events) (OpenEmit emits ends count (events ++ e ∷ []))
          (λ m h. record { given = h.given; own = h.own; latest = h.latest; unfinished = λ out. through-quiet m.ticket events e quiet (h.unfinished out) })
          emits calm.open_emits_hold;
      classes = λ k. record {
        none = (calm.classes k).none;
        due = λ m is out. let d = (calm.classes k).due m is out in (d.0, d.1, due-quiet f a ends events e k m d.0 d.1 d.2);
      };
    }

-- ---- an emit

-- the comparison of two texts goes both ways
bytes-apart : (x y : List ℕ) → bytes_eq x y ≡ false → bytes_eq y x ≡ false
bytes-apart x y h = by_test (bytes_eq y x) refl
  where
    by_test : (b : Bool) → bytes_eq y x ≡ b → b ≡ false
    by_test true is = absurd (clash (sym (subst (λ z. bytes_eq x z ≡ true) (sym ((bytes_eq-Decides y x).0 is)) (bytes_itself x)) ∙ h))
    by_test false is = refl

-- no emit of a class is open that has none open
open_none : (ends : List Finishing) (k : List ℕ) (emits : List Emission) → has_open emits ends k ≡ false → AllByRecursion (λ m. finished ends m.ticket ≡ false → in_class k m.item ≡ false) emits
open_none ends k [] h = tt
open_none ends k (m ∷ emits) h = by_end (finished ends m.ticket) refl h (open_none ends k emits)
  where
    left_false : (b c : Bool) → (b || c) ≡ false → b ≡ false
    left_false true c e = cc e
    left_false false c e = refl

    right_false : (b c : Bool) → (b || c) ≡ false → c ≡ false
    right_false true c e = cc e
    right_false false c e = e

    by_end :
        (b : Bool) → finished ends m.ticket ≡ b → list_any (λ x. in_class k x.item) (cond (not b) (m ∷ open_emits emits ends) (open_emits emits ends)) ≡ false
        → (has_open emits ends k ≡ false → AllByRecursion (λ m. finished ends m.ticket ≡ false → in_class k m.item ≡ false) emits)
        → (finished ends m.ticket ≡ false → in_class k m.item ≡ false) × AllByRecursion (λ m. finished ends m.ticket ≡ false → in_class k m.item ≡ false) emits
    by_end true is h rest = (λ out. absurd (clash (sym is ∙ out)), rest h)
    by_end false is h rest = (λ out. left_false _ _ h, rest (right_false (in_class k m.item) (has_open emits ends k) h))

last_emit-snoc : (k : List ℕ) (emits : List Emission) (m : Emission) → last_emit k (emits ++ m ∷ []) ≡ option_or (if in_class k m.item then Some m else None) (last_emit k emits)
last_emit-snoc k emits m = last_of-snoc _ emits m

-- an open emit, after one more emit of a class that had none open
open-emit :
    (emits : List Emission) (ends : List Finishing) (count : ℕ) (events : List Event) (e : Event) (new : Emission) → finish_of e ≡ None
    → (m : Emission) → OpenEmit emits ends count events m × (finished ends m.ticket ≡ false → in_class new.item.class m.item ≡ false)
    → OpenEmit (emits ++ new ∷ []) ends (count + 1) (events ++ e ∷ []) m
open-emit emits ends count events e new quiet m (h, apart) =
    record {
      given = one_above m.ticket count h.given;
      own = find-found (λ x. x.ticket == m.ticket) emits (new ∷ []) m h.own;
      latest = λ out.
          last_emit-snoc m.item.class emits new
          ∙ ap (λ b. option_or (if b then Some new else None) (last_emit m.item.class emits)) (bytes-apart m.item.class new.item.class (apart out))
          ∙ h.latest out;
      unfinished = λ out. through-quiet m.ticket events e quiet (h.unfinished out);
    }

-- the new emit
new-emit :
    (emits : List Emission) (ends : List Finishing) (count : ℕ) (events : List Event) (e : Event) (new : Emission) → finish_of e ≡ None → new.ticket ≡ count + 1
    → Bounded count (filter_map finish_of events) → AllByRecursion (λ m. nat_le m.ticket count ≡ true) emits
    → OpenEmit (emits ++ new ∷ []) ends (count + 1) (events ++ e ∷ []) new
new-emit emits ends count events e new quiet next given tickets =
    record {
      given = ap (λ n. nat_le n (count + 1)) next ∙ le_itself (count + 1);
      own = find-not_found (λ x. x.ticket == new.ticket) emits new (all-mono _ _ (λ m h. ap (λ n. m.ticket == n) next ∙ above_none m.ticket count h) emits tickets) (number_itself new.ticket);
      latest = λ out. last_emit-snoc new.item.class emits new ∙ ap (λ b. option_or (if b then Some new else None) (last_emit new.item.class emits)) (bytes_itself new.item.class);
      unfinished = λ out. through-quiet new.ticket events e quiet (ap (λ n. through (hits n) events) next ∙ through-next count events given);
    }
  where
    le_itself : (n : ℕ) → nat_le n n ≡ true
    le_itself n = grind (arith, common_steps)

has_open-snoc : (emits : List Emission) (ends : List Finishing) (new : Emission) (k : List ℕ) → finished ends new.ticket ≡ false → has_open (emits ++ new ∷ []) ends k ≡ (has_open emits ends k || (in_class k new.item || false))
has_open-snoc emits ends new k out =
    ap (list_any (λ m. in_class k m.item)) (filter-append (λ m. not (finished ends m.ticket)) emits (new ∷ []))
    ∙ list_any-append (λ m. in_class k m.item) (open_emits emits ends) (filter (λ m. not (finished ends m.ticket)) (new ∷ []))
    ∙ ap (λ b. has_open emits ends k || list_any (λ m. in_class k m.item) (cond (not b) (new ∷ []) [])) out

class-emit :
    (f : Facts) (a : Archive) (emits : List Emission) (ends : List Finishing) (events : List Event) (e : Event) (new : Emission) (k : List ℕ) → finished ends new.ticket ≡ false
    → ClassCalm f a emits ends events k → ClassCalm f a (emits ++ new ∷ []) ends (events ++ e ∷ []) k
class-emit f a emits ends events e new k out calm =
    record {
      none = λ h. calm.none (was_none (in_class k new.item) (sym (last_emit-snoc k emits new) ∙ h));
      due = λ m is closed. was_due m (in_class k new.item) refl (sym (last_emit-snoc k emits new) ∙ is) (sym (has_open-snoc emits ends new k out) ∙ closed);
    }
  where
    was_none : (b : Bool) → option_or (if b then Some new else None) (last_emit k emits) ≡ None → last_emit k emits ≡ None
    was_none true h = cc h
    was_none false h = h

    both_false : (b c : Bool) → (b || (c || false)) ≡ false → (b ≡ false) × (c ≡ false)
    both_false true c e = cc e
    both_false false true e = cc e
    both_false false false e = (refl, refl)

    was_due :
        (m : Emission) (b : Bool) → in_class k new.item ≡ b → option_or (if b then Some new else None) (last_emit k emits) ≡ Some m → (has_open emits ends k || (in_class k new.item || false)) ≡ false
        → (c : Finishing) × (front : List Event) × Due f a ends (events ++ e ∷ []) k m c front
    was_due m true at is closed = absurd (clash (sym at ∙ (both_false (has_open emits ends k) (in_class k new.item) closed).1))
    was_due m false at is closed =
        let d = calm.due m is (both_false (has_open emits ends k) (in_class k new.item) closed).0 in
        (d.0, d.1, due-quiet f a ends events e k m d.0 d.1 d.2)

pub calm-emit :
    (f : Facts) (a : Archive) (emits : List Emission) (ends : List Finishing) (count : ℕ) (events : List Event) (e : Event) (new : Emission) → finish_of e ≡ None → new.ticket ≡ count + 1
    → has_open emits ends new.item.class ≡ false → Calm f a emits ends count events → Calm f a (emits ++ new ∷ []) ends (count + 1) (events ++ e ∷ [])
calm-emit f a emits ends count events e new quiet next closed calm =
    record {
      ends_given = all-mono _ _ (λ c h. one_above c.ticket count h) ends calm.ends_given;
      all_given = subst (Bounded (count + 1)) (sym (finishes-quiet events e quiet)) (all-mono _ _ (λ c h. one_above c.ticket count h) (filter_map finish_of events) calm.all_given);
      open_emits_hold =
          all-append _ emits (new ∷ [])
          (all-mono _ _ (open-emit emits ends count events e new quiet) emits (all-both _ _ emits calm.open_emits_hold (open_none ends new.item.class emits closed)))
          (new-emit emits ends count events e new quiet next calm.all_given (all-mono _ _ (λ m h. h.given) emits calm.open_emits_hold), tt);
      classes = λ k. class-emit f a emits ends events e new k (ap (finished ends) next ∙ finished-next count ends calm.ends_given) (calm.classes k);
    }

-- ---- a finish

pub not_true : (b : Bool) → not b ≡ true → b ≡ false
not_true true e = cc e
not_true false e = refl

both_false : (b c : Bool) → (b || (c || false)) ≡ false → (b ≡ false) × (c ≡ false)
both_false true c e = cc e
both_false false true e = cc e
both_false false false e = (refl, refl)

finished-snoc : (ends : List Finishing) (c : Finishing) (n : ℕ) → finished (ends ++ c ∷ []) n ≡ (finished ends n || ((c.ticket == n) || false))
finished-snoc ends c n = list_any-append (λ x. x.ticket == n) ends (c ∷ [])

last_end-snoc : (k : List ℕ) (ends : List Finishing) (c : Finishing) → last_end k (ends ++ c ∷ []) ≡ option_or (if in_class k c.item then Some c else None) (last_end k ends)
last_end-snoc k ends c = last_of-snoc _ ends c

-- the last finish of a class is of the class
last_end-class : (k : List ℕ) (ends : List Finishing) (c : Finishing) → last_end k ends ≡ Some c → in_class k c.item ≡ true
last_end-class k [] c e = cc e
last_end-class k (x ∷ ends) c e = by_rest (last_end k ends) refl (in_class k x.item) refl e (last_end-class k ends c)
  where
    by_rest : (o : Option Finishing) → last_end k ends ≡ o → (b : Bool) → in_class k x.item ≡ b → option_or o (if b then Some x else None) ≡ Some c → (last_end k ends ≡ Some c → in_class k c.item ≡ true) → in_class k c.item ≡ true
    by_rest (Some y) is b at e rest = rest (is ∙ e)
    by_rest None is true at e rest = subst (λ z. in_class k z.item ≡ true) (same_some x c e) at
    by_rest None is false at e rest = cc e

-- a finish of another class changes no wait of this one
wait-other : (f : Facts) (a : Archive) (ends : List Finishing) (c d : Finishing) → in_class d.item.class c.item ≡ false → wait_in f a (ends ++ c ∷ []) d ≡ wait_in f a ends d
wait-other f a ends c d apart =
    ap (λ o. wait_by f (state_by f a d.time o) d.end.outcome d.end.fetch)
    (last_of-snoc _ ends c
    ∙ ap (λ b. option_or (if b && is_prerequisite c.item && is_success_or_failure c.end.outcome then Some c else None) (robots_end d.item.class ends)) apart)

-- where a finish is of no emit of the class, the emits of the class that are open were open
still_closed : (ends : List Finishing) (c : Finishing) (k : List ℕ) (emits : List Emission) → AllByRecursion (λ x. (c.ticket == x.ticket) ≡ true → in_class k x.item ≡ false) emits → has_open emits (ends ++ c ∷ []) k ≡ false → has_open emits ends k ≡ false
still_closed ends c k [] all closed = refl
still_closed ends c k (x ∷ emits) all closed =
    by_ticket (finished ends x.ticket) (c.ticket == x.ticket) refl
    (ap (λ b. list_any (λ m. in_class k m.item) (cond (not b) (x ∷ open_emits emits (ends ++ c ∷ [])) (open_emits emits (ends ++ c ∷ [])))) (sym (finished-snoc ends c x.ticket)) ∙ closed)
    (still_closed ends c k emits all.1)
  where
    cons_false : (b d : Bool) → (b || d) ≡ false → (b ≡ false) × (d ≡ false)
    cons_false true d e = cc e
    cons_false false d e = (refl, e)

    by_ticket :
        (b t : Bool) → (c.ticket == x.ticket) ≡ t
        → list_any (λ m. in_class k m.item) (cond (not (b || (t || false))) (x ∷ open_emits emits (ends ++ c ∷ [])) (open_emits emits (ends ++ c ∷ []))) ≡ false
        → (has_open emits (ends ++ c ∷ []) k ≡ false → has_open emits ends k ≡ false)
        → list_any (λ m. in_class k m.item) (cond (not b) (x ∷ open_emits emits ends) (open_emits emits ends)) ≡ false
    by_ticket true t is closed rest = rest closed
    by_ticket false true is closed rest = ap (λ b. b || has_open emits ends k) (all.0 is) ∙ rest closed
    by_ticket false false is closed rest =
        let parts = cons_false (in_class k x.item) (has_open emits (ends ++ c ∷ []) k) closed in
        ap (λ b. b || has_open emits ends k) parts.0 ∙ rest parts.1

module _ (f : Facts) (a : Archive) (emits : List Emission) (ends : List Finishing) (count : ℕ) (events : List Event) (e : Event) (c : Finishing) (m : Emission)
    (is : finish_of e ≡ Some c) (item : c.item ≡ m.item) (link : session_finishes (history_of (events ++ e ∷ [])) ≡ ends ++ c ∷ [])
    (calm : Calm f a emits ends count events) (held : OpenEmit emits ends count events m) (ticket : m.ticket ≡ c.ticket) (out : finished ends m.ticket ≡ false) where
  -- where the finish is of the class, its emit is the last of the class
  last_is : (k : List ℕ) → in_class k c.item ≡ true → last_emit k emits ≡ Some m
  last_is k at = subst (λ z. last_emit z emits ≡ Some m) (ap (λ i. i.class) (sym item) ∙ (bytes_eq-Decides c.item.class k).0 at) (held.latest out)

  open-finish : (x : Emission) → OpenEmit emits ends count events x → OpenEmit emits (ends ++ c ∷ []) count (events ++ e ∷ []) x
  open-finish x h =
      record {
        given = h.given;
        own = h.own;
        latest = λ still. h.latest (both_false (finished ends x.ticket) (c.ticket == x.ticket) (sym (finished-snoc ends c x.ticket) ∙ still)).0;
        unfinished = λ still.
            let parts = both_false (finished ends x.ticket) (c.ticket == x.ticket) (sym (finished-snoc ends c x.ticket) ∙ still) in
            through-not_found (hits x.ticket) events e (h.unfinished parts.0)
            ∙ ap (λ o. if has_ticket x.ticket o then Some (events ++ e ∷ []) else None) is
            ∙ ap (λ b. if b then Some (events ++ e ∷ []) else None) parts.1;
      }

  -- an emit with this ticket is this emit
  own_item : (k : List ℕ) → in_class k c.item ≡ false → (x : Emission) → OpenEmit emits ends count events x → (c.ticket == x.ticket) ≡ true → in_class k x.item ≡ false
  own_item k apart x h hit =
      let same : m ≡ x = same_some m x (sym held.own ∙ ap (λ n. find (λ y. y.ticket == n) emits) (ticket ∙ same_number c.ticket x.ticket hit) ∙ h.own) in
      ap (λ y. in_class k y.item) (sym same) ∙ ap (in_class k) (sym item) ∙ apart

  due-own : (k : List ℕ) → in_class k c.item ≡ true → (x : Emission) → last_emit k emits ≡ Some x → Due f a (ends ++ c ∷ []) (events ++ e ∷ []) k x c (events ++ e ∷ [])
  due-own k at x was =
      let same : m ≡ x = same_some m x (sym (last_is k at) ∙ was) in
      record {
        last = last_end-snoc k ends c ∙ ap (λ b. option_or (if b then Some c else None) (last_end k ends)) at;
        found =
            ap (λ y. through (hits y.ticket) (events ++ e ∷ [])) (sym same)
            ∙ through-not_found (hits m.ticket) events e (held.unfinished out)
            ∙ ap (λ o. if has_ticket m.ticket o then Some (events ++ e ∷ []) else None) is
            ∙ ap (λ n. if c.ticket == n then Some (events ++ e ∷ []) else None) ticket
            ∙ ap (λ b. if b then Some (events ++ e ∷ []) else None) (number_itself c.ticket);
        same =
            ap (due_after f a (history_of (events ++ e ∷ []))) (last_of-snoc finish_of events e ∙ ap (λ o. option_or o (last_of finish_of events)) is)
            ∙ ap (λ xs. capped (c.time + wait_in f a xs c)) link;
      }

  due-other : (k : List ℕ) → in_class k c.item ≡ false → (x : Emission) (d : Finishing) (front : List Event) → Due f a ends events k x d front → Due f a (ends ++ c ∷ []) (events ++ e ∷ []) k x d front
  due-other k apart x d front due =
      record {
        last = last_end-snoc k ends c ∙ ap (λ b. option_or (if b then Some c else None) (last_end k ends)) apart ∙ due.last;
        found = through-found (hits x.ticket) events (e ∷ []) front due.found;
        same =
            due.same
            ∙ ap (λ w. capped (d.time + w))
            (sym (wait-other f a ends c d (ap (λ z. in_class z c.item) ((bytes_eq-Decides d.item.class k).0 (last_end-class k ends d due.last)) ∙ apart)));
      }

  class-finish : (k : List ℕ) → ClassCalm f a emits (ends ++ c ∷ []) (events ++ e ∷ []) k
  class-finish k = by_class (in_class k c.item) refl
    where
      by_class : (b : Bool) → in_class k c.item ≡ b → ClassCalm f a emits (ends ++ c ∷ []) (events ++ e ∷ []) k
      by_class true at = record {
        none = λ none. absurd (some_none (sym (last_is k at) ∙ none));
        due = λ x was closed. (c, events ++ e ∷ [], due-own k at x was);
      }
        where
          some_none : Some m ≡ None → ⊥
          some_none e = cc e
      by_class false apart = record {
        none = λ none. last_end-snoc k ends c ∙ ap (λ b. option_or (if b then Some c else None) (last_end k ends)) apart ∙ (calm.classes k).none none;
        due = λ x was closed.
            let d = (calm.classes k).due x was (still_closed ends c k emits (all-mono _ _ (own_item k apart) emits calm.open_emits_hold) closed) in
            (d.0, d.1, due-other k apart x d.0 d.1 d.2);
      }

  pub calm-finish : Calm f a emits (ends ++ c ∷ []) count (events ++ e ∷ [])
  calm-finish =
      record {
        ends_given = all-append _ ends (c ∷ []) calm.ends_given (given, tt);
        all_given = subst (Bounded count) (sym (filter_map-append finish_of events (e ∷ []) ∙ ap (λ o. filter_map finish_of events ++ cons_option o []) is)) (all-append _ (filter_map finish_of events) (c ∷ []) calm.all_given (given, tt));
        open_emits_hold = all-mono _ _ open-finish emits calm.open_emits_hold;
        classes = class-finish;
      }
    where
      given : nat_le c.ticket count ≡ true
      given = ap (λ n. nat_le n count) (sym ticket) ∙ held.given
