use Rattle.std.proofs.Common.{◌≡◌, ℕ, true, false, List, ◌∷◌, ◌++◌, sym, ap, ◌∙◌, lit<}
use Rattle.std.proofs.lemmas.Str.{encode_ascii}
use lib.Utf8.{encode}
use Rattle.seed_list.specs.Lines.{is_passed, plus_sign}
use Rattle.seed_list.proofs.LineKinds.{other_is_seed, unmarked}
use Rattle.seed_list.proofs.Steps.{list_passed}
use Rattle.seed_list.proofs.list.add_line.Goals as goal

pub returns-then-is_passed-clause-ok : goal.returns-then-is_passed-clause-ok
returns-then-is_passed-clause-ok c =
    let passed : is_passed c.args.line.now ≡ true =
    ap (λ (l : List ℕ). is_passed l) (sym c.as_bytes.ensures.value) ∙ sym c.is_passed.ensures ∙ c.if-is_passed.true in
    list_passed c.args.list.now c.args.line.now passed

pub add_seed-requires : goal.add_seed-requires
add_seed-requires c =
    let passed : is_passed c.args.line.now ≡ false =
    ap (λ (l : List ℕ). is_passed l) (sym c.as_bytes.ensures.value) ∙ sym c.is_passed.ensures ∙ c.if-is_passed.false in
    let mark : (rest : List ℕ) → plus_sign ∷ rest ≡ encode plus_sign ++ rest = λ rest. ap (λ (l : List ℕ). l ++ rest) (sym (encode_ascii plus_sign (lit< tt))) in
    other_is_seed c.args.line.now passed (unmarked c.args.line.now (λ rest e. c.in-None.ensures.cases rest (e ∙ mark rest)))
