-- The refusals by their numbers, as documents 01 and 02 give them: "a refusal is its number alone".
-- Assumes nothing.
use Rattle.std.specs.Prelude.{ℕ, Result, Ok, Err}
use Rattle.refusals.specs.declared.Refusal.{Refusal}
use Rattle.refusals.specs.declared.Refusal.TheVariants.{File, Header, Record, Kind, Unused, Range, Tables, Stage, Clock, RunsFull, Form, Underivable, Ticket, Authenticator, Replay, CacheFull, TermsFull, Room, Ahead}

abbrev pub number : Refusal → ℕ
number File = 1
number Header = 2
number Record = 3
number Kind = 4
number Unused = 5
number Range = 6
number Tables = 10
number Stage = 11
number Clock = 12
number RunsFull = 13
number Form = 14
number Underivable = 15
number Ticket = 16
number Authenticator = 17
number Replay = 18
number CacheFull = 19
number TermsFull = 20
number Room = 21
number Ahead = 22

-- an answer of the code in the paper's numbers
abbrev pub numbered : {A : Type 0} → Result A Refusal → Result A ℕ
numbered (Ok a) = Ok a
numbered (Err r) = Err (number r)

-- 0, or the number of the refusal
abbrev pub number_of : {A : Type 0} → Result A Refusal → ℕ
number_of (Ok a) = 0
number_of (Err r) = number r
