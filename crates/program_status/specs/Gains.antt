-- What an output gained.
--     Gains rose old new text      a text, or a front of it where the sink failed
--     Says of old new text result      a call wrote the text, or a front of it where it fails
use Rattle.std.specs.Prelude.{◌≡◌, ℕ, ◌<◌, ◌≤◌, List, ◌++◌, length, take, IsTrue, Result, OnOk, OnErr}
use Rattle.crawl_traits.specs.Causes.{HasCause}
use Rattle.crawl_traits.specs.declared.fault.Failed.{Failed}
use Rattle.crawl_traits.specs.declared.stream.Sink.{Ghosts}

-- the output gained the text, or a front of it where the sink failed
pub record Gains (rose : Type 0) (old new text : List ℕ) : Type 0 where
  pub upto : ℕ
  pub within : upto ≤ length text
  pub is : new ≡ old ++ take upto text
  pub whole : upto < length text → rose

-- the output gained a front of the text
pub record GainsFront (old new text : List ℕ) : Type 0 where
  pub upto : ℕ
  pub within : upto ≤ length text
  pub is : new ≡ old ++ take upto text

-- the call wrote the text; where it fails a front of it, and the sink failed
pub record Says {S : Type 0} (of : Ghosts S) (old new : S) (text : List ℕ) (result : Result (Unit {0}) Failed) : Type 0 where
  pub ok : IsTrue (of.tells old) → OnOk result (of.written new ≡ of.written old ++ text)
  pub err : IsTrue (of.tells old) → OnErr result (GainsFront (of.written old) (of.written new) text)
  pub tells : of.tells new ≡ of.tells old
  pub cause : HasCause (of.faults old) (of.faults new) result
