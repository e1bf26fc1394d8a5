use Rattle.std.proofs.Common.{List, ℕ, ◌++◌, ◌∙◌, ap, sym, subst}
use Rattle.std.specs.Prelude.{codes}
use Rattle.std.specs.Fmt.{decimal}
use Rattle.program_status.specs.Gains.{Says}
use Rattle.program_status.specs.Status.{fault_text}
use Rattle.program_status.proofs.Lines.{too_long, not_toml, no_memory, bad_seed, bad_pattern}
use Rattle.program_status.proofs.line.say_refused.Goals as goal

pub returns-in-TooLong : goal.returns-in-TooLong
returns-in-TooLong g c =
    subst (λ (t : List ℕ). Says g.W.Sink c.args.out.now c.say_plainly.new.out (codes "job refused: " ++ (t ++ codes "\n")) c.say_plainly.result)
    (sym too_long ∙ sym (ap fault_text c.in-TooLong.is)) c.say_plainly.ensures

pub returns-in-NotToml : goal.returns-in-NotToml
returns-in-NotToml g c =
    subst (λ (t : List ℕ). Says g.W.Sink c.args.out.now c.say_plainly-in-NotToml.new.out (codes "job refused: " ++ (t ++ codes "\n")) c.say_plainly-in-NotToml.result)
    (sym not_toml ∙ sym (ap fault_text c.in-NotToml.is)) c.say_plainly-in-NotToml.ensures

pub returns-in-NoMemory : goal.returns-in-NoMemory
returns-in-NoMemory g c =
    subst (λ (t : List ℕ). Says g.W.Sink c.args.out.now c.say_plainly-in-NoMemory.new.out (codes "job refused: " ++ (t ++ codes "\n")) c.say_plainly-in-NoMemory.result)
    (sym no_memory ∙ sym (ap fault_text c.in-NoMemory.is)) c.say_plainly-in-NoMemory.ensures

pub returns-in-BadSeed : goal.returns-in-BadSeed
returns-in-BadSeed g c =
    subst (λ (t : List ℕ). Says g.W.Sink c.args.out.now c.say_counted.new.out (codes "job refused: " ++ (t ++ codes "\n")) c.say_counted.result)
    (ap (λ (n : ℕ). codes "BadSeed " ++ decimal n) c.from.ensures ∙ sym (bad_seed c.in-BadSeed.line) ∙ sym (ap fault_text c.in-BadSeed.is)) c.say_counted.ensures

pub returns-in-BadPattern : goal.returns-in-BadPattern
returns-in-BadPattern g c =
    subst (λ (t : List ℕ). Says g.W.Sink c.args.out.now c.say_counted-in-BadPattern.new.out (codes "job refused: " ++ (t ++ codes "\n")) c.say_counted-in-BadPattern.result)
    (sym (bad_pattern c.in-BadPattern.index) ∙ sym (ap fault_text c.in-BadPattern.is)) c.say_counted-in-BadPattern.ensures
