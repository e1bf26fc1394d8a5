-- The same answer, of two facts that say the same.
use Rattle.std.proofs.Common.{Option, Some, None, Result, Ok, Err}
use Rattle.journal_read.specs.declared.fault.Misread.{Misread}
use Rattle.journal_read.specs.declared.fault.Misread.TheVariants.{Bad, NoMemory}
use Rattle.journal_read.specs.Reading.{Finds, Reads}

pub finds_same : {X : Type 0} (P Q : X → Type 0) (o : Option X) → ((x : X) → P x → Q x) → ((x : X) → Q x → P x) → Finds P o → Finds Q o
finds_same P Q None to from h = λ x q. h x (from x q)
finds_same P Q (Some x) to from h = to x h

pub reads_same : {X : Type 0} (P Q : X → Type 0) (r : Result X Misread) → ((x : X) → P x → Q x) → ((x : X) → Q x → P x) → Reads P r → Reads Q r
reads_same P Q (Ok x) to from h = to x h
reads_same P Q (Err Bad) to from h = λ x q. h x (from x q)
reads_same P Q (Err NoMemory) to from h = tt
