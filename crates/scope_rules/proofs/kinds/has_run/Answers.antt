use Rattle.std.proofs.Common.{◌≡◌, ◌∙◌, ◌++◌, ◌==◌, ◌+◌, ◌<◌, ◌≤◌, ap, sym, subst, rules, tests, length, drop, get_or, replicate, false, true}
use Rattle.std.specs.List.{slice_split}
use Rattle.std.proofs.lemmas.List.{drop_all, length_push}
use Rattle.std.proofs.lemmas.Iterator.Splits.{YieldsList-from_slice_split}
use Rattle.std.proofs.lemmas.Iterator.Consumers.{YieldsList-turn, YieldsList-end}
use Rattle.std.proofs.Math.Nat.{le_refl}
use Rattle.scope_spec.specs.Answer.{has_run}
use Rattle.scope_spec.specs.UriParts.{segments_of, slash}
use Rattle.scope_rules.specs.Runs.{is_too_long}
use Rattle.scope_rules.proofs.Runs.{run_found, turn, over, short_with, bound_with}
use Rattle.scope_rules.proofs.kinds.has_run.Goals as goal

pub returns-then-is_too_long : goal.returns-then-is_too_long
returns-then-is_too_long c =
    let max = c.args.max in
    let segment = c.in-Some.segment.now in
    let all = segments_of c.args.uri.now in
    let k = length c.loop-segment.yielded in
    let at = YieldsList-turn (YieldsList-from_slice_split _ (λ b. b == slash) c.path_of.result.now (cc) (cc) (cc) (λ x b q k. search (rules, tests))) c.loop-segment.yielded _ c.loop-segment.yielded_by _ _ c.in-Some.segment c.in-Some.is c.next.ensures.steps in
    let here = subst (λ path. (k < length (slice_split (λ b. b == slash) path)) × (segment ≡ get_or (slice_split (λ b. b == slash) path) k segment)) c.path_of.ensures at in
    let same = turn max c.loop-segment.run c.loop-segment.last.now segment all k c.loop-segment.invariant.same c.loop-segment.invariant.short here in
    let long : is_too_long max c.run_with-run.result segment ≡ true = sym c.is_too_long.ensures ∙ c.if-is_too_long.true in
    sym (same ∙ ap (λ n. has_run max (replicate n segment ++ drop (k + 1) all)) (sym c.run_with-run.ensures) ∙ run_found max c.run_with-run.result segment (drop (k + 1) all) long)

pub loop-segment-preserved : goal.loop-segment-preserved
loop-segment-preserved c =
    let max = c.args.max in
    let segment = c.in-Some.segment.now in
    let all = segments_of c.args.uri.now in
    let k = length c.loop-segment.yielded in
    let at = YieldsList-turn (YieldsList-from_slice_split _ (λ b. b == slash) c.path_of.result.now (cc) (cc) (cc) (λ x b q k. search (rules, tests))) c.loop-segment.yielded _ c.loop-segment.yielded_by _ _ c.in-Some.segment c.in-Some.is c.next.ensures.steps in
    let here = subst (λ path. (k < length (slice_split (λ b. b == slash) path)) × (segment ≡ get_or (slice_split (λ b. b == slash) path) k segment)) c.path_of.ensures at in
    let same = turn max c.loop-segment.run c.loop-segment.last.now segment all k c.loop-segment.invariant.same c.loop-segment.invariant.short here in
    let brief : is_too_long max c.run_with-run.result segment ≡ false = sym c.is_too_long.ensures ∙ c.if-is_too_long.false in
    record {
      same = same ∙ ap (λ n. has_run max (replicate n segment ++ drop (k + 1) all)) (sym c.run_with-run.ensures)
          ∙ ap (λ n. has_run max (replicate c.run_with-run.result segment ++ drop n all)) (sym (length_push c.loop-segment.yielded c.in-Some.segment));
      short = short_with max c.run_with-run.result segment brief;
      bound = subst (λ n. n ≤ max + 1) (sym c.run_with-run.ensures) (bound_with max c.loop-segment.run c.loop-segment.last.now segment c.loop-segment.invariant.short);
    }

pub returns : goal.returns
returns c =
    let max = c.args.max in
    let all = segments_of c.args.uri.now in
    let k = length c.loop-segment.yielded in
    let end = YieldsList-end (YieldsList-from_slice_split _ (λ b. b == slash) c.path_of.result.now (cc) (cc) (cc) (λ x b q k. search (rules, tests))) c.loop-segment.yielded _ c.loop-segment.yielded_by _ _ c.in-None.is c.next.ensures.steps in
    let count : k ≡ length all = end.1 ∙ ap (λ path. length (slice_split (λ b. b == slash) path)) c.path_of.ensures in
    let none = drop_all k all (subst (λ n. n ≤ k) count (le_refl k)) in
    sym (c.loop-segment.invariant.same ∙ ap (λ rest. has_run max (replicate c.loop-segment.run c.loop-segment.last.now ++ rest)) none
    ∙ over max c.loop-segment.run c.loop-segment.last.now c.loop-segment.invariant.short)
