use Rattle.std.proofs.Common.{List, ℕ, ◌++◌, ◌∙◌, [], ap, sym, subst, append_assoc, append-nil, Ok, Err}
use Rattle.std.specs.Prelude.{codes}
use Rattle.program_status.specs.Gains.{Says}
use Rattle.program_status.specs.Status.{printed}
use Rattle.program_status.proofs.Fronts.{says_then, says_no_more}
use Rattle.program_status.proofs.line.say_named.Goals as goal

pub returns-in-Err : goal.returns-in-Err
returns-in-Err g c =
    let nothing : List ℕ = [] in
    let f = c.args.fault.now in
    let p = printed c.args.name.now in
    subst (λ (t : List ℕ). Says g.W.Sink c.args.out.now c.write_pieces.new.out (codes "job refused: " ++ t) (Err c.in-Err.field-0))
    (ap (λ (t : List ℕ). t ++ (p ++ codes "\n")) (append-nil f) ∙ sym (append_assoc f p (codes "\n")))
    (says_no_more g.W.Sink c.args.out.now c.write_pieces.new.out c.write_pieces.new.out (codes "job refused: " ++ (f ++ nothing)) (p ++ codes "\n") c.in-Err.field-0 c.in-Err.ensures)

pub returns-in-Err-write_name : goal.returns-in-Err-write_name
returns-in-Err-write_name g c =
    let nothing : List ℕ = [] in
    let f = c.args.fault.now in
    let p = printed c.args.name.now in
    let first = codes "job refused: " ++ (f ++ nothing) in
    subst (λ (t : List ℕ). Says g.W.Sink c.args.out.now c.write_name.new.out (codes "job refused: " ++ t) (Err c.in-Err-write_name.field-0))
    (ap (λ (t : List ℕ). (t ++ p) ++ codes "\n") (append-nil f))
    (says_no_more g.W.Sink c.args.out.now c.write_name.new.out c.write_name.new.out (first ++ p) (codes "\n") c.in-Err-write_name.field-0
    (says_then g.W.Sink c.args.out.now c.write_pieces.new.out c.write_name.new.out first p (Err c.in-Err-write_name.field-0) c.in-Ok.ensures c.in-Err-write_name.ensures))

pub returns : goal.returns
returns g c =
    let nothing : List ℕ = [] in
    let f = c.args.fault.now in
    let p = printed c.args.name.now in
    let first = codes "job refused: " ++ (f ++ nothing) in
    subst (λ (t : List ℕ). Says g.W.Sink c.args.out.now c.write_pieces-2.new.out (codes "job refused: " ++ t) c.write_pieces-2.result)
    (ap (λ (t : List ℕ). (t ++ p) ++ codes "\n") (append-nil f))
    (says_then g.W.Sink c.args.out.now c.write_name.new.out c.write_pieces-2.new.out (first ++ p) (codes "\n") c.write_pieces-2.result
    (says_then g.W.Sink c.args.out.now c.write_pieces.new.out c.write_name.new.out first p (Ok tt) c.in-Ok.ensures c.in-Ok-write_name.ensures) c.write_pieces-2.ensures)
