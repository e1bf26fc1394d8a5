-- What is kept of the session, with one event more.
use Rattle.std.proofs.Common.{◌≡◌, ℕ, ◌+◌, ◌≤◌, ◌<◌, Bool, true, false, ◌||◌, not, ◌==◌, cond, List, [], ◌∷◌, ◌++◌, map, length, refl, sym, ◌∙◌, ap, subst, Option, Some, None, add-zero, arith, ⊎_elim}
use Rattle.std.specs.Prelude.{filter, option_map, unwrap_or, bytes_eq, is_some, if◌then◌else◌}
use Rattle.std.specs.List.{AllByRecursion}
use Rattle.std.specs.Option.{option_or}
use Rattle.std.specs.Ordering.{nat_cmp}
use Rattle.std.specs.Cmp.Lexicographic.{slice_cmp}
use Rattle.std.specs.Map.{lookup}
use Rattle.std.specs.BTreeMap.{is_at}
use Rattle.std.proofs.lemmas.Bool.{cases_Bool}
use Rattle.std.proofs.lemmas.Bool.Decides.{Decides-eqb}
use Rattle.std.proofs.lemmas.List.{append-nil, map-append, length-append}
use Rattle.std.proofs.lemmas.Slice.Eq.{bytes_eq-Decides}
use Rattle.crawl_kinds.specs.declared.event.Event.{Event}
use Rattle.crawl_kinds.specs.declared.event.Event.TheVariants.{Session, Seeds, Emit, Finish}
use Rattle.crawl_kinds.specs.declared.event.End.{End}
use Rattle.crawl_kinds.specs.declared.item.Item.{Item}
use Rattle.crawl_kinds.specs.Event.{Emission, Finishing}
use Rattle.crawl_history.specs.Scans.{last_of}
use Rattle.crawl_history.specs.History.{History, with_event, session_emits, session_finishes, ticket_count}
use Rattle.crawl_history.specs.Queues.{in_class}
use Rattle.crawl_history.specs.Tickets.{emits_out, is_ended}
use Rattle.crawl_history.specs.Waits.{last_finish}
use Rattle.history_steps.specs.ScansStep.{ends_emit}
use Rattle.history_steps.proofs.Lists.{last_of-snoc}
use Rattle.history_steps.proofs.Sessions.{session_emits-with_event, emits_out-with_event, session_finishes-with_event, ticket_count-with_event, session_time-with_event}
use Rattle.frontier_memo.specs.declared.session.Last.{Last}
use Rattle.frontier_memo.specs.declared.session.Out.{Out}
use Rattle.frontier_memo.specs.declared.session.SessionMemo.{SessionMemo}
use Rattle.frontier_memo.specs.Memory.{emission, RemembersSession}
use Rattle.frontier_memo.specs.Sums.{class_at, last_at, last_by}
use Rattle.frontier_memo.proofs.Lists.{map-filter, all-append, all-filter, all-weaker, filter-all, filter-same}

-- what was given is given still
given_still : {X : Type 0} (ticket : X → ℕ) (xs ys : List X) (n m : ℕ) → ys ≡ xs → n ≤ m → AllByRecursion (λ x. ticket x ≤ n) xs → AllByRecursion (λ x. ticket x ≤ m) ys
given_still ticket xs ys n m same le all =
    subst (AllByRecursion (λ x. ticket x ≤ m)) (sym same) (all-weaker _ _ (λ x h. omega arith) xs all)

-- the last finish of a class, where the finishes stay the same
last_still : (h i : History) (class : List ℕ) → session_finishes i ≡ session_finishes h → last_finish i class ≡ last_finish h class
last_still h i class same = ap (last_of (λ c. if in_class class c.item then Some c else None)) same

-- ---- a session

pub begun :
    (h : History) (new : SessionMemo) (time tickets : ℕ) (job : List ℕ) (format : ℕ) → tickets ≡ ticket_count h
    → new.start ≡ time → new.earlier ≡ tickets → new.out.items ≡ [] → new.last.entries ≡ []
    → RemembersSession (with_event h (Session time job format)) new
begun h new time tickets job format count start earlier out last =
    let e : Event = Session time job format in
    let none : emits_out (with_event h e) ≡ [] = emits_out-with_event h e in
    let no_emits : session_emits (with_event h e) ≡ [] = session_emits-with_event h e in
    let no_ends : session_finishes (with_event h e) ≡ [] = session_finishes-with_event h e in
    record {
      start = start ∙ sym (session_time-with_event h e);
      earlier = ap (λ n. n + length (session_emits (with_event h e))) (earlier ∙ count) ∙ ap (λ (l : List Emission). ticket_count h + length l) no_emits ∙ sym (ticket_count-with_event h e);
      out = ap (map emission) out ∙ sym none;
      last = λ class. ap (λ es. unwrap_or (lookup (is_at (slice_cmp nat_cmp class)) es) None) last ∙ sym (ap (λ l. option_map last_by (last_of (λ c. if in_class class c.item then Some c else None) l)) no_ends);
      given = subst (AllByRecursion (λ m. m.ticket ≤ ticket_count (with_event h e))) (sym none) tt;
      ended = subst (AllByRecursion (λ c. c.ticket ≤ ticket_count (with_event h e))) (sym no_ends) tt;
    }

-- ---- seeds

module _ (h : History) (session : SessionMemo) (time : ℕ) (list : List (List ℕ)) (adds : List Item) where
  abbrev seeds : Event
  seeds = Seeds time list adds

  same_out : emits_out (with_event h seeds) ≡ emits_out h
  same_out = emits_out-with_event h seeds ∙ append-nil _ ∙ filter-all (λ m. not (ends_emit None m)) (λ m. refl) (emits_out h)

  same_emits : session_emits (with_event h seeds) ≡ session_emits h
  same_emits = session_emits-with_event h seeds ∙ append-nil (session_emits h)

  same_ends : session_finishes (with_event h seeds) ≡ session_finishes h
  same_ends = session_finishes-with_event h seeds ∙ append-nil (session_finishes h)

  same_count : ticket_count (with_event h seeds) ≡ ticket_count h
  same_count = ticket_count-with_event h seeds ∙ add-zero (ticket_count h)

  pub seeded : RemembersSession h session → RemembersSession (with_event h (Seeds time list adds)) session
  seeded is =
      record {
        start = is.start ∙ sym (session_time-with_event h seeds);
        earlier = ap (λ (l : List Emission). session.earlier + length l) same_emits ∙ is.earlier ∙ sym same_count;
        out = is.out ∙ sym same_out;
        last = λ class. is.last class ∙ ap (option_map last_by) (sym (last_still h (with_event h seeds) class same_ends));
        given = given_still (λ m. m.ticket) (emits_out h) _ (ticket_count h) _ same_out (omega (arith, same_count)) is.given;
        ended = given_still (λ c. c.ticket) (session_finishes h) _ (ticket_count h) _ same_ends (omega (arith, same_count)) is.ended;
      }

-- ---- an emit

eqb-apart : (n m : ℕ) → (n ≡ m → ⊥) → (n == m) ≡ false
eqb-apart n m apart = ⊎_elim (λ same. absurd (apart ((Decides-eqb n m).0 same))) (λ h. h) (cases_Bool (n == m))

-- a ticket that was not given yet is not ended
not_ended : (n : ℕ) (ends : List Finishing) (m : Emission) → AllByRecursion (λ c. c.ticket ≤ n) ends → n < m.ticket → is_ended ends m ≡ false
not_ended n [] m all lt = refl
not_ended n (c ∷ ends) m all lt =
    ap (λ b. b || is_ended ends m) (eqb-apart c.ticket m.ticket (λ same. omega (arith, all.0))) ∙ not_ended n ends m all.1 lt

module _ (h : History) (old new : SessionMemo) (one : Out) (is : RemembersSession h old) (next : one.ticket ≡ ticket_count h + 1) where
  abbrev emit : Event
  emit = Emit one.time one.caller one.ticket one.verdict one.item

  more_out : emits_out (with_event h emit) ≡ emits_out h ++ emission one ∷ []
  more_out =
      emits_out-with_event h emit
      ∙ ap (λ b. filter (λ m. not (ends_emit None m)) (emits_out h) ++ cond (not b) (emission one ∷ []) []) (not_ended (ticket_count h) (session_finishes h) (emission one) is.ended (omega (arith, next)))
      ∙ ap (λ xs. xs ++ emission one ∷ []) (filter-all (λ m. not (ends_emit None m)) (λ m. refl) (emits_out h))

  more_emits : session_emits (with_event h emit) ≡ session_emits h ++ emission one ∷ []
  more_emits = session_emits-with_event h emit

  ends_still : session_finishes (with_event h emit) ≡ session_finishes h
  ends_still = session_finishes-with_event h emit ∙ append-nil (session_finishes h)

  one_more : ticket_count (with_event h emit) ≡ ticket_count h + 1
  one_more = ticket_count-with_event h emit

  earlier_still : old.earlier + length (session_emits (with_event h emit)) ≡ ticket_count (with_event h emit)
  earlier_still = omega (arith, is.earlier, one_more, ap (λ (l : List Emission). length l) more_emits, length-append (session_emits h) (emission one ∷ []))

  pub put_out :
      new.start ≡ old.start → new.earlier ≡ old.earlier → new.out.items ≡ old.out.items ++ one ∷ [] → new.last ≡ old.last
      → RemembersSession (with_event h (Emit one.time one.caller one.ticket one.verdict one.item)) new
  put_out start earlier out last =
      record {
        start = start ∙ is.start ∙ sym (session_time-with_event h emit);
        earlier = ap (λ (n : ℕ). n + length (session_emits (with_event h emit))) earlier ∙ earlier_still;
        out = ap (map emission) out ∙ map-append emission old.out.items (one ∷ []) ∙ ap (λ xs. xs ++ emission one ∷ []) is.out ∙ sym more_out;
        last = λ class. ap (λ m. last_at m class) last ∙ is.last class ∙ ap (option_map last_by) (sym (last_still h (with_event h emit) class ends_still));
        given = subst (AllByRecursion (λ m. m.ticket ≤ ticket_count (with_event h emit))) (sym more_out)
            (all-append _ (emits_out h) (emission one ∷ []) (given_still (λ m. m.ticket) (emits_out h) (emits_out h) (ticket_count h) (ticket_count (with_event h emit)) refl (omega (arith, one_more)) is.given)
            (omega (arith, one_more, next), tt));
        ended = given_still (λ c. c.ticket) (session_finishes h) _ (ticket_count h) _ ends_still (omega (arith, one_more)) is.ended;
      }

-- ---- a finish

not_or : (b : Bool) → not (b || false) ≡ not b
not_or true = refl
not_or false = refl

-- the class of the finish has it last, and each other class what it had
last_written :
    (c : Finishing) (last : Last) (class : List ℕ) (before : Option Finishing) (kept new : Option (Option Last))
    → last ≡ last_by c → (bytes_eq c.item.class class ≡ true → is_some kept ≡ true) → unwrap_or kept None ≡ option_map last_by before
    → new ≡ (if bytes_eq c.item.class class then option_map (λ _. Some last) kept else kept)
    → unwrap_or new None ≡ option_map last_by (option_or (if in_class class c.item then Some c else None) before)
last_written c last class before kept new of room is written = ap (λ o. unwrap_or o None) written ∙ by_class (bytes_eq c.item.class class) kept room is
  where
    by_class :
        (b : Bool) (o : Option (Option Last)) → (b ≡ true → is_some o ≡ true) → unwrap_or o None ≡ option_map last_by before
        → unwrap_or (if b then option_map (λ _. Some last) o else o) None ≡ option_map last_by (option_or (if b then Some c else None) before)
    by_class false o room is = is
    by_class true None room is = let clash : false ≡ true = room refl in cc
    by_class true (Some l) room is = ap (λ l. Some l) of

module _ (h : History) (old new : SessionMemo) (time caller ticket : ℕ) (item : Item) (end : End) (adds : List Item) where
  abbrev finish : Event
  finish = Finish time caller ticket item end adds

  abbrev finishing : Finishing
  finishing = record { time = time; caller = caller; ticket = ticket; item = item; end = end; adds = adds }

  fewer_out : emits_out (with_event h finish) ≡ filter (λ m. not (ticket == m.ticket)) (emits_out h)
  fewer_out =
      emits_out-with_event h finish ∙ append-nil _
      ∙ filter-same _ (λ m. not (ticket == m.ticket)) (λ m. not_or (ticket == m.ticket)) (emits_out h)

  emits_still : session_emits (with_event h finish) ≡ session_emits h
  emits_still = session_emits-with_event h finish ∙ append-nil (session_emits h)

  more_ends : session_finishes (with_event h finish) ≡ session_finishes h ++ finishing ∷ []
  more_ends = session_finishes-with_event h finish

  none_more : ticket_count (with_event h finish) ≡ ticket_count h
  none_more = ticket_count-with_event h finish ∙ add-zero (ticket_count h)

  last_more : (class : List ℕ) → last_finish (with_event h finish) class ≡ option_or (if in_class class item then Some finishing else None) (last_finish h class)
  last_more class =
      ap (last_of (λ c. if in_class class c.item then Some c else None)) more_ends
      ∙ last_of-snoc (λ c. if in_class class c.item then Some c else None) (session_finishes h) finishing

  pub ended :
      (last : Last) → RemembersSession h old → ticket ≤ ticket_count h
      → last ≡ last_by (record { time = time; caller = caller; ticket = ticket; item = item; end = end; adds = adds })
      → is_some (class_at old.last item.class) ≡ true
      → new.start ≡ old.start → new.earlier ≡ old.earlier → new.out.items ≡ filter (λ o. not (ticket == o.ticket)) old.out.items
      → ((q : List ℕ) → class_at new.last q ≡ (if bytes_eq item.class q then option_map (λ _. Some last) (class_at old.last q) else class_at old.last q))
      → RemembersSession (with_event h (Finish time caller ticket item end adds)) new
  ended last is given of room start earlier out written =
      record {
        start = start ∙ is.start ∙ sym (session_time-with_event h finish);
        earlier = ap (λ (n : ℕ). n + length (session_emits (with_event h finish))) earlier ∙ ap (λ (l : List Emission). old.earlier + length l) emits_still ∙ is.earlier ∙ sym none_more;
        out = ap (map emission) out ∙ map-filter emission (λ m. not (ticket == m.ticket)) old.out.items ∙ ap (filter (λ m. not (ticket == m.ticket))) is.out ∙ sym fewer_out;
        last = λ class. last_written finishing last class (last_finish h class) (class_at old.last class) (class_at new.last class) of
            (λ same. subst (λ k. is_some (class_at old.last k) ≡ true) ((bytes_eq-Decides item.class class).0 same) room) (is.last class) (written class)
            ∙ ap (option_map last_by) (sym (last_more class));
        given = given_still (λ m. m.ticket) _ _ (ticket_count h) _ fewer_out (omega (arith, none_more)) (all-filter _ (λ m. not (ticket == m.ticket)) (emits_out h) is.given);
        ended = subst (AllByRecursion (λ c. c.ticket ≤ ticket_count (with_event h finish))) (sym more_ends)
            (all-append _ (session_finishes h) _ (given_still (λ c. c.ticket) (session_finishes h) (session_finishes h) (ticket_count h) (ticket_count (with_event h finish)) refl (omega (arith, none_more)) is.ended)
            (omega (arith, none_more, given), tt));
      }
