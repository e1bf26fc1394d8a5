use Rattle.std.proofs.Common.{◌≡◌, ℕ, ◌≤◌, List, Err, inl, sym, ap, subst, ◌∙◌, arith, rules, lit<}
use Rattle.std.specs.Prelude.{count_by}
use Rattle.std.proofs.lemmas.Iterator.Consumers.{YieldsList-at, YieldsList-from_enumerate}
use Rattle.std.proofs.lemmas.Iterator.Splits.{YieldsList-from_str_split}
use Rattle.seed_list.specs.declared.fault.LineFault.{LineFault}
use Rattle.seed_list.specs.Bad.{IsRefused}
use Rattle.seed_list.specs.Lines.{is_seed_line, lines}
use Rattle.seed_list.specs.Listing.{IsListOf}
use Rattle.seed_list.proofs.Faults.{behind_bad}
use Rattle.seed_list.proofs.Steps.{list_none}
use Rattle.seed_list.proofs.Walks.{at_end, at_turn, bad_at, fewer, walked}
use Rattle.seed_list.proofs.list.read_seed_list.Goals as goal

pub loop-count-init : goal.loop-count-init
loop-count-init c = record { ready = search rules; ends = tt; list = list_none _ c.new.ensures c.new-2.ensures }

pub returns-in-Err-clause-bad : goal.returns-in-Err-clause-bad
returns-in-Err-clause-bad c = λ n h.
    let text = c.args.text.now in
    let place = at_turn text (YieldsList-at c.into_iter-count-iterator.ensures.into_iter_gives (YieldsList-from_enumerate (YieldsList-at c.enumerate-count-items.ensures.source (YieldsList-from_str_split 10 text (lit< tt) c.split.ensures.text c.split.ensures.has_more c.split.ensures.pattern)) c.enumerate-count-items.ensures.count))
    c.loop-count.yielded _ c.loop-count.yielded_by _ _ (c.in-Some.count, c.in-Some.piece) c.in-Some.is c.next.ensures.steps in
    let p = behind_bad c.in-Some.count n c.in-Err.fault (sym c.behind.ensures ∙ cc h) in
    let refused = c.in-Err.ensures.refused (ap (λ (f : LineFault). Err f) p.0) in
    let before = walked c.loop-count.yielded in
    let room : count_by is_seed_line before ≤ 200000 = omega (arith, fewer text before _ _ place, c.requires.seeds) in
    bad_at IsRefused text before _ n _ c.trimmed_text.result.now place p.1 c.trimmed_text.ensures
    (record { taken = c.loop-count.invariant.list.taken; room = room }) (inl refused)

pub returns-clause-ok : goal.returns-clause-ok
returns-clause-ok c =
    let text = c.args.text.now in
    let all : walked c.loop-count.yielded ≡ lines text = at_end text (YieldsList-at c.into_iter-count-iterator.ensures.into_iter_gives (YieldsList-from_enumerate (YieldsList-at c.enumerate-count-items.ensures.source (YieldsList-from_str_split 10 text (lit< tt) c.split.ensures.text c.split.ensures.has_more c.split.ensures.pattern)) c.enumerate-count-items.ensures.count))
    c.loop-count.yielded _ c.loop-count.yielded_by _ _ c.in-None.is c.next.ensures.steps in
    subst (λ (l : List (List ℕ)). IsListOf c.loop-count.list l) all c.loop-count.invariant.list
