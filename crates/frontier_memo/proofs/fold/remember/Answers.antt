use Rattle.std.proofs.Common.{◌≡◌, ◌+◌, true, false, List, ◌∷◌, ◌++◌, [], take, sym, ap, subst, ◌∙◌, Some}
use Rattle.std.proofs.lemmas.List.{take_all}
use Rattle.std.proofs.lemmas.Option.{slice_get-get_or}
use Rattle.crawl_kinds.specs.declared.event.Event.{Event}
use Rattle.crawl_history.specs.History.{history_of}
use Rattle.frontier_memo.specs.Fits.{AllFit, IsFirstUnfit}
use Rattle.frontier_memo.specs.Memory.{Remembers}
use Rattle.frontier_memo.specs.Taking.{Takes}
use Rattle.frontier_memo.proofs.Folding.{all_fit-snoc, all_fit-none}
use Rattle.frontier_memo.proofs.Keeping.{next_taken}
use Rattle.frontier_memo.proofs.fold.remember.Goals as goal

pub loop-index-init : goal.loop-index-init
loop-index-init c = record { kept = c.new-memo.ensures; fit = all_fit-none }

pub returns-then-not-branch-clause-not_a_step : goal.returns-then-not-branch-clause-not_a_step
returns-then-not-branch-clause-not_a_step c i e =
    let here : c.loop-index.index ≡ i = cc in
    let events = c.args.events.now in
    let taken : Takes (history_of (take c.loop-index.index events)) c.index-events-index.result c.take.new.self false =
    subst (λ b. Takes (history_of (take c.loop-index.index events)) c.index-events-index.result c.take.new.self b) c.if-not-branch.true (c.in_ok-take.ensures.taken _ c.loop-index.invariant.kept) in
    subst (IsFirstUnfit events) here
    (record {
      event = c.index-events-index.result;
      stands = slice_get-get_or events c.loop-index.index c.index-events-index.result c.loop-index-test.true ∙ ap Some (sym c.index-events-index.is);
      unfit = taken;
      before = c.loop-index.invariant.fit;
    })

pub loop-index-preserved : goal.loop-index-preserved
loop-index-preserved c =
    let events = c.args.events.now in
    let taken : Takes (history_of (take c.loop-index.index events)) c.index-events-index.result c.take.new.self true =
    subst (λ b. Takes (history_of (take c.loop-index.index events)) c.index-events-index.result c.take.new.self b) c.if-not-branch.false (c.in_ok-take.ensures.taken _ c.loop-index.invariant.kept) in
    let more : take (c.loop-index.index + 1) events ≡ take c.loop-index.index events ++ c.index-events-index.result ∷ [] =
    next_taken events c.loop-index.index c.index-events-index.result c.loop-index-test.true c.index-events-index.is in
    record {
      kept = subst (λ (es : List Event). Remembers (history_of es) c.take.new.self) (sym more) taken.1;
      fit = subst (λ (es : List Event). AllFit es) (sym more) (all_fit-snoc (take c.loop-index.index events) c.index-events-index.result c.loop-index.invariant.fit taken.0);
    }

pub returns-clause-fit : goal.returns-clause-fit
returns-clause-fit c = subst (λ (es : List Event). AllFit es) (take_all c.loop-index.index c.args.events.now c.loop-index-test.false) c.loop-index.invariant.fit
