-- No class has two emits out.
use Rattle.std.proofs.Common.{◌≡◌, ℕ, ◌+◌, ◌≤◌, Bool, true, false, not, cond, List, [], ◌∷◌, ◌++◌, length, refl, sym, subst, arith, zero-le, Some, None, ◌==◌}
use Rattle.std.specs.Prelude.{filter, if◌then◌else◌}
use Rattle.std.specs.List.{list_any}
use Rattle.std.proofs.lemmas.List.{append-nil, append_assoc}
use Rattle.std.proofs.lemmas.Slice.Eq.{bytes_eq-Decides}
use Rattle.crawl_kinds.specs.declared.event.Event.{Event}
use Rattle.crawl_kinds.specs.declared.event.Event.TheVariants.{Session, Seeds, Emit, Finish}
use Rattle.crawl_kinds.specs.Event.{emit_of, finish_of, Emission}
use Rattle.crawl_history.specs.Facts.{Facts, Archive}
use Rattle.crawl_history.specs.History.{History, with_event, with_events, is_session, session_finishes}
use Rattle.crawl_history.specs.Queues.{in_class}
use Rattle.crawl_history.specs.Steps.{Step, Steps, Permits}
use Rattle.crawl_history.specs.Tickets.{emits_out, class_emits_out, is_out}
use Rattle.history_steps.proofs.Sessions.{emits_out-with_event}
use Rattle.history_steps.specs.ScansStep.{ends_emit, out_by, one_if}
use Rattle.history_laws.proofs.Chosen.{given-chosen}
use Rattle.history_laws.proofs.Counting.{number-none_any, number, number-cons, number-append}

abbrev pub IsAlone : History → Type 0
IsAlone h = (k : List ℕ) → length (class_emits_out h k) ≤ 1

number-filter-≤ : {X : Type 0} (p q : X → Bool) (xs : List X) → number p (filter q xs) ≤ number p xs
number-filter-≤ p q [] = zero-le
number-filter-≤ {X} p q (x ∷ xs) = by_test (q x) (number-filter-≤ p q xs)
  where
    by_test : (b : Bool) → number p (filter q xs) ≤ number p xs → number p (cond b (x ∷ filter q xs) (filter q xs)) ≤ number p (x ∷ xs)
    by_test true rest = omega (arith, rest, number-cons p x (filter q xs), number-cons p x xs)
    by_test false rest = omega (arith, rest, number-cons p x xs)

-- one more emit at most, and none where one is out
alone-more : (n0 n1 n2 : ℕ) (b : Bool) → n0 ≤ 1 → n1 ≤ n0 → n2 ≤ one_if b → (b ≡ true → n0 ≡ 0) → n1 + n2 ≤ 1
alone-more n0 n1 n2 true most fewer new none = let zero : n0 ≡ 0 = none refl in omega (arith, most, fewer, new, zero)
alone-more n0 n1 n2 false most fewer new none = omega (arith, most, fewer, new)

-- an event puts one emit out at most
new-≤ : (p : Emission → Bool) (h : History) (m : Emission) → number p (out_by h (Some m)) ≤ one_if (p m)
new-≤ p h m = by_test (not (list_any (λ c. c.ticket == m.ticket) (session_finishes h)))
  where
    by_test : (b : Bool) → number p (cond b (m ∷ []) []) ≤ one_if (p m)
    by_test true = omega (arith, number-cons p m [])
    by_test false = zero-le

alone-step : (f : Facts) (a : Archive) (h : History) (e : Event) → IsAlone h → Step f a h e → IsAlone (with_event h e)
alone-step f a h e alone step k =
    subst (λ xs. number (λ m. in_class k m.item) xs ≤ 1) (sym (emits_out-with_event h e)) (by_event e step.permits)
  where
    no_more : (q : Emission → Bool) → number (λ m. in_class k m.item) (filter q (emits_out h) ++ []) ≤ 1
    no_more q =
        let fewer = number-filter-≤ (λ m. in_class k m.item) q (emits_out h) in
        let most = alone k in
        subst (λ xs. number (λ m. in_class k m.item) xs ≤ 1) (sym (append-nil (filter q (emits_out h)))) (omega (arith, fewer, most))

    by_event :
        (e : Event) → Permits f a h e
        → number (λ m. in_class k m.item) (if is_session e then [] else filter (λ m. not (ends_emit (finish_of e) m)) (emits_out h) ++ out_by h (emit_of e)) ≤ 1
    by_event (Session time job format) permits = zero-le
    by_event (Seeds time list adds) permits = no_more (λ m. not (ends_emit None m))
    by_event (Finish time caller ticket item end adds) permits =
        no_more (λ m. not (ends_emit (Some (record { time = time; caller = caller; ticket = ticket; item = item; end = end; adds = adds })) m))
    by_event (Emit time caller ticket verdict item) permits =
        subst (λ n. n ≤ 1) (sym (number-append (λ m. in_class k m.item) (filter (λ m. not (ends_emit None m)) (emits_out h)) (out_by h (Some new))))
        (alone-more (number (λ m. in_class k m.item) (emits_out h)) (number (λ m. in_class k m.item) (filter (λ m. not (ends_emit None m)) (emits_out h))) (number (λ m. in_class k m.item) (out_by h (Some new))) (in_class k item) (alone k)
        (number-filter-≤ (λ m. in_class k m.item) (λ m. not (ends_emit None m)) (emits_out h))
        (new-≤ (λ m. in_class k m.item) h new)
        (λ same. number-none_any (λ m. in_class k m.item) (emits_out h) (subst (λ z. is_out h z ≡ false) ((bytes_eq-Decides item.class k).0 same) (given-chosen f a h time item permits.0).closed)))
      where
        new : Emission
        new = record { time = time; caller = caller; ticket = ticket; verdict = verdict; item = item }

pub alone-along : (f : Facts) (a : Archive) (h : History) (es : List Event) → IsAlone h → Steps f a h es → IsAlone (with_events h es)
alone-along f a h [] alone steps = subst (λ xs. IsAlone (record { base = h.base; events = xs })) (sym (append-nil h.events)) alone
alone-along f a h (e ∷ es) alone steps =
    subst (λ xs. IsAlone (record { base = h.base; events = xs })) (append_assoc h.events (e ∷ []) es)
    (alone-along f a (with_event h e) es (alone-step f a h e alone steps.0) steps.1)
