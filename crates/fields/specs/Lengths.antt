-- How long the fields are: their texts, and the digits of their numbers.
-- Assumes nothing.
use Rattle.std.specs.Prelude.{◌<◌, ℕ, Option, Some, None, Ok, Err}
use Rattle.exchange.specs.Calls.{Answer}
use Rattle.exchange.specs.declared.call.Accepted.TheVariants.{Old, New, Taken}

-- the numbers of a run and of an answer have the widths of the code
abbrev pub NarrowNames : Option ℕ → Type 0
NarrowNames (Some r) = r < 256
NarrowNames None = Unit {0}

abbrev pub Narrow : Answer → Type 0
Narrow (Ok (Old i)) = i < 65536
Narrow (Ok (New i)) = i < 65536
Narrow (Ok (Taken who k)) = NarrowNames who × (k < 65536)
Narrow (Err k) = k < 256
