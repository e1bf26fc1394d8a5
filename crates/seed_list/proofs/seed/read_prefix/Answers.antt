use Rattle.std.proofs.Common.{◌≡◌, ℕ, List, true, false, nat_eq, sym, ap, ◌∙◌}
use Rattle.std.specs.Prelude.{codes}
use Rattle.std.specs.List.{starts_with}
use Rattle.seed_list.proofs.LineKinds.{behind_made, behind_stated}
use Rattle.seed_list.proofs.seed.read_prefix.Goals as goal

pub returns-then-starts_with : goal.returns-then-starts_with
returns-then-starts_with c =
    let test : starts_with nat_eq c.args.rest.now (codes "http://(") ≡ true =
    ap (λ (l : List ℕ). starts_with nat_eq l (codes "http://(")) (sym c.as_bytes.ensures.value) ∙ sym c.starts_with.ensures.value ∙ c.if-starts_with.true in
    rw (behind_stated c.args.rest.now test) c.read_surt.ensures

pub returns : goal.returns
returns c =
    let test : starts_with nat_eq c.args.rest.now (codes "http://(") ≡ false =
    ap (λ (l : List ℕ). starts_with nat_eq l (codes "http://(")) (sym c.as_bytes.ensures.value) ∙ sym c.starts_with.ensures.value ∙ c.if-starts_with.false in
    rw (behind_made c.args.rest.now test) c.read_seed_prefix.ensures
