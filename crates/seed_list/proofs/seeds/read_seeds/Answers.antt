use Rattle.std.proofs.Common.{◌≡◌, ◌⊎◌, ℕ, ◌+◌, ◌≤◌, Bool, true, false, cond, eqb, List, Err, length, inl, inr, sym, ap, subst, ◌∙◌, arith, rules, tests}
use Rattle.std.specs.Prelude.{count_by}
use Rattle.std.proofs.iter.Serving.{serving}
use Rattle.std.proofs.lemmas.Iterator.Consumers.{YieldsList-at, YieldsList-from_enumerate}
use Rattle.std.proofs.lemmas.Iterator.Splits.{YieldsList-from_slice_split}
use Rattle.seed_list.specs.declared.fault.LineFault.{LineFault}
use Rattle.seed_list.specs.Bad.{IsRefusedSeed, most_seeds}
use Rattle.seed_list.specs.Lines.{is_seed_line, line_feed, lines}
use Rattle.seed_list.specs.Listing.{AreSeedsOf}
use Rattle.seed_list.proofs.Faults.{behind_bad}
use Rattle.seed_list.proofs.Steps.{seeds_none}
use Rattle.seed_list.proofs.Walks.{at_end, at_turn, bad_at, walked}
use Rattle.seed_list.proofs.seeds.read_seeds.Goals as goal

at_most_one_more : (done : Bool) (n : ℕ) → cond done 0 (n + 1) ≤ n + 1
at_most_one_more true n = omega arith
at_most_one_more false n = omega arith

pub loop-count-init : goal.loop-count-init
loop-count-init c =
    let walk = c.into_iter-count-iterator.result in
    let none : walk.count ≡ 0 = search rules in
    let whole : length walk.iter.rest.now ≡ length c.args.text.now = search rules in
    let left : cond walk.iter.done 0 (length walk.iter.rest.now + 1) ≤ length walk.iter.rest.now + 1 = at_most_one_more walk.iter.done _ in
    record {
      ready = (search serving, tt, inl (omega (arith, none, whole, left)));
      ends = tt;
      seeds = seeds_none _ c.new-seeds.ensures;
    }

pub returns-in-Err-clause-bad : goal.returns-in-Err-clause-bad
returns-in-Err-clause-bad c = λ n h.
    let text = c.args.text.now in
    let place = at_turn text (YieldsList-at c.into_iter-count-iterator.ensures.into_iter_gives (YieldsList-from_enumerate (YieldsList-at c.enumerate-count-items.ensures.source (YieldsList-from_slice_split _ (λ b. eqb b line_feed) text c.split.ensures.rest c.split.ensures.done c.split.ensures.closure (λ x b q k. search (rules, tests)))) c.enumerate-count-items.ensures.count))
    c.loop-count.yielded _ c.loop-count.yielded_by _ _ (c.in-Some.count, c.in-Some.piece) c.in-Some.is c.next.ensures.steps in
    let p = behind_bad c.in-Some.count n c.in-Err.fault (sym c.behind.ensures ∙ cc h) in
    let before = walked c.loop-count.yielded in
    let list = c.loop-count.invariant.seeds in
    let line = c.trimmed.result.now in
    let bad : IsRefusedSeed line ⊎ ((is_seed_line line ≡ true) × (most_seeds ≤ count_by is_seed_line before)) =
    elim (c.in-Err.ensures.refused (ap (λ (f : LineFault). Err f) p.0)) [ inl refused ↦ inl refused | inr many ↦ inr (many.0, omega (arith, many.1, list.count)) ] in
    (omega arith, bad_at IsRefusedSeed text before _ n _ line place p.1 c.trimmed.ensures list.good bad)

pub returns-clause-ok : goal.returns-clause-ok
returns-clause-ok c =
    let text = c.args.text.now in
    let all : walked c.loop-count.yielded ≡ lines text = at_end text (YieldsList-at c.into_iter-count-iterator.ensures.into_iter_gives (YieldsList-from_enumerate (YieldsList-at c.enumerate-count-items.ensures.source (YieldsList-from_slice_split _ (λ b. eqb b line_feed) text c.split.ensures.rest c.split.ensures.done c.split.ensures.closure (λ x b q k. search (rules, tests)))) c.enumerate-count-items.ensures.count))
    c.loop-count.yielded _ c.loop-count.yielded_by _ _ c.in-None.is c.next.ensures.steps in
    (subst (λ (l : List (List ℕ)). AreSeedsOf c.loop-count.seeds l) all c.loop-count.invariant.seeds, omega arith)
