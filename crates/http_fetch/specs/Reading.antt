-- What is known of the response from the bytes given so far.
use Rattle.std.specs.Prelude.{◌≡◌, ◌⊎◌, ℕ, ◌<◌, Bool, true, List, length, take, Option, Some, None}
use Rattle.http_message.specs.Reading.{Expects as IsExpected}
use Rattle.http_message.specs.declared.front.Front.{Front}
use Rattle.http_message.specs.declared.front.Front.TheVariants.{Expects, Never, Partial}
use Rattle.page_spec.specs.Response.{BeginsWith, BeginsWhole, NeverWhole}

-- the whole response has so many bytes, or none can come, or the peer's end came before its head
abbrev pub Decides : ℕ → List ℕ → Bool → Front → Type 0
Decides limit given ended (Expects total) = IsExpected limit given total
Decides limit given ended Never = NeverWhole limit given
Decides limit given ended Partial = (ended ≡ true) × ¬ (BeginsWhole limit given)

-- the bytes given begin with this whole response, or with none: none can come, or the peer's end came before one
abbrev pub Reads : ℕ → List ℕ → Bool → Option (List ℕ) → Type 0
Reads limit given ended (Some block) = BeginsWith limit given block
Reads limit given ended None = NeverWhole limit given ⊎ ((ended ≡ true) × ¬ (BeginsWhole limit given))

-- the bytes given go on from a front: to the whole block of this length, or to fewer
abbrev pub Fills : List ℕ → ℕ → List ℕ → Option (List ℕ) → Type 0
Fills front total given (Some block) = (given ≡ block) × (length block ≡ total) × (take (length front) given ≡ front)
Fills front total given None = (length given < total) × (take (length front) given ≡ front)
