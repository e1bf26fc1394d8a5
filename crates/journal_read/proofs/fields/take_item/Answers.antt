use Rattle.std.proofs.Common.{◌≡◌, ◌∷◌, ap, ◌∙◌, List, ℕ}
use Rattle.std.proofs.lemmas.Result.{err_from_is_err_and}
use Rattle.journal_read.specs.Reading.{left}
use Rattle.journal_read.proofs.Taken.{item_no_uri, item_taken}
use Rattle.journal_read.proofs.fields.take_item.Goals as goal

pub returns : goal.returns
returns c =
    let u = c.in_ok-uri.uri.now in
    let p = c.in_ok-path.path.now in
    let v = c.in_ok-via.via.now in
    let new = left c.next-3.new.self in
    let e : left c.args.parts.now ≡ u ∷ p ∷ v ∷ new = c.in_ok-uri.ensures ∙ ap (λ (t : List (List ℕ)). u ∷ t) (c.in_ok-path.ensures ∙ ap (λ (t : List (List ℕ)). p ∷ t) c.in_ok-via.ensures) in
    item_taken (left c.args.parts.now) new c.item_of.result u p v c.in_ok-named.named.uri c.in_ok-path-2.path c.in_ok-via-2.via e c.in_ok-named.ensures.0.uri c.in_ok-named.ensures.1 c.in_ok-path-2.ensures.0 c.in_ok-path-2.ensures.1 c.in_ok-via-2.ensures.0 c.in_ok-via-2.ensures.1 c.item_of.ensures

pub returns-in_err-named : goal.returns-in_err-named
returns-in_err-named c =
    let p = err_from_is_err_and c.from_residual-in_err-named.result c.from_residual-in_err-named.ensures.1 in
    rw (p.1, p.2) (item_no_uri (left c.args.parts.now) (left c.next.new.self) (left c.next-3.new.self) c.in_ok-uri.uri.now c.in_err-named.field-0.0 c.in_ok-uri.ensures c.in_err-named.ensures)
