-- What one more event does to tries, budgets, sums and the last cited end.
use Rattle.std.proofs.Common.{◌≡◌, ℕ, ◌+◌, Bool, true, false, ◌||◌, cond, List, [], ◌∷◌, ◌++◌, refl, ◌∙◌, ap, arith, Option, Some, None}
use Rattle.std.specs.Prelude.{option_to_list, count_by, sum_by, if◌then◌else◌}
use Rattle.std.specs.List.{list_any}
use Rattle.std.specs.Option.{option_or}
use Rattle.std.proofs.lemmas.List.Folds.{list_any-append}
use Rattle.std.proofs.lemmas.List.Sums.{sum_by-append}
use Rattle.crawl_kinds.specs.declared.event.Event.{Event}
use Rattle.crawl_kinds.specs.declared.snapshot.Edge.{Edge}
use Rattle.crawl_kinds.specs.Event.{finish_of, Finishing}
use Rattle.crawl_history.specs.Scans.{last_of, after_last}
use Rattle.crawl_history.specs.History.{History, with_event, finishes}
use Rattle.crawl_history.specs.Places.{adds_key}
use Rattle.crawl_history.specs.Counts.{vain_tries, vain_tries_in, is_vain_finish, budget_spent, costs_budget, pages, is_page, bytes_in, bytes_of}
use Rattle.crawl_history.specs.Citations.{cited_end, edge_of, edge_or}
use Rattle.history_steps.specs.ScansStep.{one_if}
use Rattle.history_steps.proofs.Lists.{after_last-snoc, last_of-append}
use Rattle.history_steps.proofs.Sessions.{finishes-with_event}

-- a sum over the finishes grows by that of this finish
sum-with_event : (f : Finishing → ℕ) (b : ℕ) (h : History) (e : Event) → b + sum_by f (finishes (with_event h e)) ≡ (b + sum_by f (finishes h)) + sum_by f (option_to_list (finish_of e))
sum-with_event f b h e =
    ap (λ xs. b + sum_by f xs) (finishes-with_event h e)
    ∙ ap (λ n. b + n) (sum_by-append f (finishes h) (option_to_list (finish_of e)))
    ∙ regroup b (sum_by f (finishes h)) (sum_by f (option_to_list (finish_of e)))
  where
    regroup : (b n m : ℕ) → b + (n + m) ≡ (b + n) + m
    regroup b n m = omega arith

pub budget_spent-with_event :
    (h : History) (e : Event) (class : List ℕ)
    → budget_spent (with_event h e) class
    ≡ budget_spent h class + count_by (costs_budget class) (option_to_list (finish_of e))
budget_spent-with_event h e class = sum-with_event _ _ h e

pub pages-with_event : (h : History) (e : Event) → pages (with_event h e) ≡ pages h + count_by is_page (option_to_list (finish_of e))
pages-with_event h e = sum-with_event _ _ h e

pub bytes_in-with_event : (h : History) (e : Event) → bytes_in (with_event h e) ≡ bytes_in h + sum_by bytes_of (option_to_list (finish_of e))
bytes_in-with_event h e = sum-with_event _ _ h e

edge_or-or : (o p : Option Edge) (base : Option Edge) → edge_or (option_or o p) base ≡ edge_or o (edge_or p base)
edge_or-or None p base = refl
edge_or-or (Some edge) p base = refl

pub cited_end-with_event : (h : History) (e : Event) → cited_end (with_event h e) ≡ edge_or (last_of edge_of (option_to_list (finish_of e))) (cited_end h)
cited_end-with_event h e =
    ap (λ xs. edge_or (last_of edge_of xs) h.base.end) (finishes-with_event h e)
    ∙ ap (λ o. edge_or o h.base.end) (last_of-append edge_of (finishes h) (option_to_list (finish_of e)))
    ∙ edge_or-or (last_of edge_of (option_to_list (finish_of e))) (last_of edge_of (finishes h)) h.base.end

pub vain_tries-with_event : (h : History) (e : Event) (key : List ℕ) → vain_tries (with_event h e) key ≡ (if adds_key key e then 0 else vain_tries h key + one_if (is_vain_finish key (finish_of e)))
vain_tries-with_event h e key =
    ap (λ b. (if b then 0 else vain_tries_in h key) + count_by (λ e. is_vain_finish key (finish_of e)) (after_last (adds_key key) (h.events ++ e ∷ []))) (list_any-append (adds_key key) h.events (e ∷ []))
    ∙ ap (λ xs. (if list_any (adds_key key) h.events || (adds_key key e || false) then 0 else vain_tries_in h key) + count_by (λ e. is_vain_finish key (finish_of e)) xs) (after_last-snoc (adds_key key) h.events e)
    ∙ by_add (adds_key key e) (list_any (adds_key key) h.events) (vain_tries_in h key)
  where
    counted : (xs : List Event) → count_by (λ e. is_vain_finish key (finish_of e)) (xs ++ e ∷ []) ≡ count_by (λ e. is_vain_finish key (finish_of e)) xs + one_if (is_vain_finish key (finish_of e))
    counted xs = sum_by-append (λ e. cond (is_vain_finish key (finish_of e)) 1 0) xs (e ∷ []) ∙ by_vain (is_vain_finish key (finish_of e)) _
      where
        by_vain : (b : Bool) (n : ℕ) → n + (0 + cond b 1 0) ≡ n + one_if b
        by_vain true n = refl
        by_vain false n = refl

    regroup : (b n m : ℕ) → b + (n + m) ≡ (b + n) + m
    regroup b n m = omega arith

    by_add :
        (b c : Bool) (t : ℕ) → (if c || (b || false) then 0 else t) + count_by (λ e. is_vain_finish key (finish_of e)) (if b then [] else after_last (adds_key key) h.events ++ e ∷ [])
        ≡ (if b then 0 else ((if c then 0 else t) + count_by (λ e. is_vain_finish key (finish_of e)) (after_last (adds_key key) h.events)) + one_if (is_vain_finish key (finish_of e)))
    by_add true true t = refl
    by_add true false t = refl
    by_add false true t = ap (λ n. 0 + n) (counted (after_last (adds_key key) h.events)) ∙ regroup 0 _ _
    by_add false false t = ap (λ n. t + n) (counted (after_last (adds_key key) h.events)) ∙ regroup t _ _
