use Rattle.std.proofs.Common.{◌≡◌, ◌∷◌, ◌++◌, [], ℕ, List, length, Some, ◌∙◌, ap, subst, arith}
use Rattle.std.specs.Prelude.{slice_get}
use Rattle.crawl_kinds.specs.declared.event.Event.{Event}
use Rattle.frontier_memo.specs.Fits.{AllFit, IsFirstUnfit}
use Rattle.recover_journal.specs.Holds.{journal_file}
use Rattle.open_crawl.specs.Faults.{IsDamageOf}
use Rattle.open_crawl.proofs.Unfit.{fit_front, unfit_within, unfit_named}
use Rattle.open_crawl.proofs.begin.fold_opened.Goals as goal

pub returns-in-Ok-clause-fit : goal.returns-in-Ok-clause-fit
returns-in-Ok-clause-fit c =
    let all : c.push.new.self.items ≡ c.args.opened.events ++ c.args.session ∷ [] =
    c.in_ok-push.ensures.items ∙ ap (λ (l : List Event). l ++ c.args.session ∷ []) c.into_vec-events.ensures in
    fit_front c.args.opened.events (c.args.session ∷ []) (subst (λ (es : List Event). AllFit es) all c.in-Ok.ensures.fit)

pub damage_at-requires : goal.damage_at-requires
damage_at-requires c =
    let all : c.push.new.self.items ≡ c.args.opened.events ++ c.args.session ∷ [] =
    c.in_ok-push.ensures.items ∙ ap (λ (l : List Event). l ++ c.args.session ∷ []) c.into_vec-events.ensures in
    let bad : IsFirstUnfit c.push.new.self.items c.in-Err-NotAStep.index = c.in-Err-NotAStep.ensures.not_a_step c.in-Err-NotAStep.index (cc) in
    let within = unfit_within c.args.opened.events c.args.opened.gates c.args.session c.push.new.self.items c.in-Err-NotAStep.index c.requires.session all c.requires.gates bad in
    omega (arith, within.0, ap (λ (l : List ℕ). length l) c.as_slice.ensures)

pub returns-in-Err-NotAStep-clause-unfit : goal.returns-in-Err-NotAStep-clause-unfit
returns-in-Err-NotAStep-clause-unfit c =
    let all : c.push.new.self.items ≡ c.args.opened.events ++ c.args.session ∷ [] =
    c.in_ok-push.ensures.items ∙ ap (λ (l : List Event). l ++ c.args.session ∷ []) c.into_vec-events.ensures in
    let bad : IsFirstUnfit c.push.new.self.items c.in-Err-NotAStep.index = c.in-Err-NotAStep.ensures.not_a_step c.in-Err-NotAStep.index (cc) in
    let within = unfit_within c.args.opened.events c.args.opened.gates c.args.session c.push.new.self.items c.in-Err-NotAStep.index c.requires.session all c.requires.gates bad in
    let named : IsDamageOf journal_file (λ at. slice_get c.args.opened.gates c.in-Err-NotAStep.index ≡ Some at) c.damage_at.result =
    subst (λ (l : List ℕ). IsDamageOf journal_file (λ at. slice_get l c.in-Err-NotAStep.index ≡ Some at) c.damage_at.result) c.as_slice.ensures c.damage_at.ensures.is in
    unfit_named c.args.opened.events c.args.opened.gates c.in-Err-NotAStep.index c.damage_at.result named within.1
