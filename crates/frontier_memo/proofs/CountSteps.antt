-- What is counted, with one event more.
use Rattle.std.proofs.Common.{◌≡◌, ℕ, ◌+◌, Bool, true, false, not, cond, List, refl, sym, ◌∙◌, ap, Option, Some, None, add-zero, arith}
use Rattle.std.specs.Prelude.{◌&&◌, option_map, bytes_eq, if◌then◌else◌}
use Rattle.std.specs.Option.{option_or}
use Rattle.crawl_kinds.specs.declared.event.Event.{Event}
use Rattle.crawl_kinds.specs.declared.event.Event.TheVariants.{Session, Seeds, Emit, Finish}
use Rattle.crawl_kinds.specs.declared.event.End.{End}
use Rattle.crawl_kinds.specs.declared.item.Item.{Item}
use Rattle.crawl_kinds.specs.declared.snapshot.Edge.{Edge}
use Rattle.crawl_kinds.specs.Event.{finish_of}
use Rattle.crawl_history.specs.History.{History, with_event}
use Rattle.crawl_history.specs.Counts.{budget_spent, pages, bytes_in, size_of}
use Rattle.crawl_history.specs.Citations.{cited_end, edge_after, edge_or}
use Rattle.crawl_history.specs.Outcomes.{is_success, is_success_or_failure, is_prerequisite}
use Rattle.history_steps.proofs.Counting.{budget_spent-with_event, pages-with_event, bytes_in-with_event, cited_end-with_event}
use Rattle.frontier_memo.specs.declared.counts.Counts.{Counts}
use Rattle.frontier_memo.specs.Memory.{RemembersCounts}
use Rattle.frontier_memo.specs.Sums.{saturated, saturated_edge, spent_at}

-- where nothing is counted, all stays
same_counts :
    (h i : History) (counts : Counts) → ((class : List ℕ) → budget_spent i class ≡ budget_spent h class + 0) → pages i ≡ pages h + 0 → bytes_in i ≡ bytes_in h + 0 → cited_end i ≡ cited_end h
    → RemembersCounts h counts → RemembersCounts i counts
same_counts h i counts spent page byte edge is =
    record {
      spent = λ class. is.spent class ∙ ap saturated (sym (spent class ∙ add-zero (budget_spent h class)));
      pages = is.pages ∙ ap saturated (sym (page ∙ add-zero (pages h)));
      bytes = is.bytes ∙ ap saturated (sym (byte ∙ add-zero (bytes_in h)));
      end = is.end ∙ ap (option_map saturated_edge) (sym edge);
    }

-- an event that is no finish counts nothing
pub uncounted : (h : History) (e : Event) (counts : Counts) → finish_of e ≡ None → RemembersCounts h counts → RemembersCounts (with_event h e) counts
uncounted h (Session time job format) counts none is =
    let e : Event = Session time job format in
    same_counts h (with_event h e) counts (budget_spent-with_event h e) (pages-with_event h e) (bytes_in-with_event h e) (cited_end-with_event h e) is
uncounted h (Seeds time list adds) counts none is =
    let e : Event = Seeds time list adds in
    same_counts h (with_event h e) counts (budget_spent-with_event h e) (pages-with_event h e) (bytes_in-with_event h e) (cited_end-with_event h e) is
uncounted h (Emit time caller ticket verdict item) counts none is =
    let e : Event = Emit time caller ticket verdict item in
    same_counts h (with_event h e) counts (budget_spent-with_event h e) (pages-with_event h e) (bytes_in-with_event h e) (cited_end-with_event h e) is
uncounted h (Finish time caller ticket item end adds) counts none is = cc

-- ---- a finish

-- one more where it holds
one_more : (b : Bool) (n m : ℕ) → m ≡ saturated n → saturated (m + (if b then 1 else 0)) ≡ saturated (n + (0 + cond b 1 0))
one_more true n m is = omega arith
one_more false n m is = omega arith

-- what the class of the finish spends, and that another class spends nothing
spent_more :
    (b s p : Bool) (n m : ℕ) → m ≡ saturated n
    → (if b then saturated (m + (if s && p then 1 else 0)) else m) ≡ saturated (n + (0 + cond ((b && s) && p) 1 0))
spent_more true s p n m is = one_more (s && p) n m is
spent_more false s p n m is = omega arith

edge_more : (o base : Option Edge) → option_or (option_map saturated_edge o) (option_map saturated_edge base) ≡ option_map saturated_edge (edge_or o base)
edge_more None base = refl
edge_more (Some edge) base = refl

bytes_more : (size n m : ℕ) → m ≡ saturated n → saturated (m + size) ≡ saturated (n + (0 + size))
bytes_more size n m is = omega arith

pub counted :
    (h : History) (old new : Counts) (time caller ticket : ℕ) (item : Item) (end : End) (adds : List Item) → RemembersCounts h old
    → ((q : List ℕ) → spent_at new.spent q ≡ (if bytes_eq item.class q then saturated (spent_at old.spent q + (if is_success_or_failure end.outcome && not (is_prerequisite item) then 1 else 0)) else spent_at old.spent q))
    → new.pages ≡ saturated (old.pages + (if is_success end.outcome && not (is_prerequisite item) then 1 else 0))
    → new.bytes ≡ saturated (old.bytes + size_of end.body)
    → new.end ≡ option_or (option_map saturated_edge (edge_after end.body)) old.end
    → RemembersCounts (with_event h (Finish time caller ticket item end adds)) new
counted h old new time caller ticket item end adds is spent page byte edge =
    let e : Event = Finish time caller ticket item end adds in
    record {
      spent = λ class. spent class
          ∙ spent_more (bytes_eq item.class class) (is_success_or_failure end.outcome) (not (is_prerequisite item)) (budget_spent h class) (spent_at old.spent class) (is.spent class)
          ∙ ap saturated (sym (budget_spent-with_event h e class));
      pages = page ∙ one_more (is_success end.outcome && not (is_prerequisite item)) (pages h) old.pages is.pages ∙ ap saturated (sym (pages-with_event h e));
      bytes = byte ∙ bytes_more (size_of end.body) (bytes_in h) old.bytes is.bytes ∙ ap saturated (sym (bytes_in-with_event h e));
      end = edge ∙ ap (option_or (option_map saturated_edge (edge_after end.body))) is.end ∙ edge_more (edge_after end.body) (cited_end h)
          ∙ ap (option_map saturated_edge) (sym (cited_end-with_event h e));
    }
