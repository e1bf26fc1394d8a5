-- What is true inside every queue, beside what contracts see.
use Rattle.std.specs.Prelude.{◌≢◌, ℕ, ◌<◌, List, length, All, Option, IfSome}
use Rattle.host_queue.specs.Queue.{Entry, place, IsInOrder}

-- an item is out: there is room to put it back, and no entry stands where it stood
pub record IsOut (waiting : List Entry) (capacity : ℕ) (at : ℕ × ℕ) : Type 0 where
  pub room : length waiting < capacity
  pub apart : All (λ entry. place entry ≢ at) waiting

-- the entries are in order, and the one last taken can be put back
pub record IsSound (waiting : List Entry) (capacity : ℕ) (taken : Option (ℕ × ℕ)) : Type 0 where
  pub ordered : IsInOrder waiting
  pub out : IfSome taken (IsOut waiting capacity)
