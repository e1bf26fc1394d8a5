-- What the calls of a link do to its list of exchanges.
--     opened host port      an exchange at its beginning
--     taking bytes, giving bytes ends      an exchange after bytes were taken, or given
--     with_last step list      the last exchange takes a step
use Rattle.std.specs.Prelude.{ℕ, Bool, false, ◌&&◌, ◌||◌, nat_eq, nat_lt, List, [], ◌∷◌, ◌++◌, length}
use Rattle.crawl_traits.specs.declared.link.Exchange.{Exchange}

-- nothing was taken or given, and the end has not come
abbrev pub opened : List ℕ → ℕ → Exchange
opened host port = record { host = host; port = port; taken = []; given = []; ended = false }

-- the link took bytes more
abbrev pub taking : List ℕ → Exchange → Exchange
taking bytes e = record e { taken = e.taken ++ bytes }

-- the link gave bytes more, or the peer's end
abbrev pub giving : List ℕ → Bool → Exchange → Exchange
giving bytes ends e = record e { given = e.given ++ bytes; ended = e.ended || ends }

-- no byte for a buffer that is not empty
abbrev pub is_end : ℕ → List ℕ → Bool
is_end n buffer = nat_eq n 0 && nat_lt 0 (length buffer)

-- the last exchange takes a step, and the others stay
abbrev pub with_last : (Exchange → Exchange) → List Exchange → List Exchange
with_last step [] = []
with_last step (e ∷ []) = step e ∷ []
with_last step (e ∷ f ∷ more) = e ∷ with_last step (f ∷ more)
