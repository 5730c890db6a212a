-- The calls of a file: "A file gives the list of its whole TM and ST records up to where reading ends." The list is that of the
-- bytes after the header, and of every rest of them, so that a reader at a place knows what is still to come.
-- Assumes nothing.
use Rattle.std.specs.Prelude.{◌≡◌, List, [], ◌∷◌, ℕ, zero, suc, ◌+◌, ◌≤◌, length, drop}
use Rattle.exchange.specs.declared.call.Call.{Call}
use Rattle.exchange.specs.Calls.{Sized}
use Rattle.records.specs.Fields.{Bytes}
use Rattle.records.specs.Records.{term_bytes, Front, whole, none, unreadable, front_of}

-- ---- definitions

-- how reading ends: at the end of the file, or at a record that gives 3
pub data Ending : Type 0 where
  ended : Ending
  broken : Ending

-- the calls of a file, in order, and how reading ended
pub record Calls : Type 0 where
  pub calls : List Call
  pub ending : Ending

-- a call and those after it
abbrev pub then : Call → Calls → Calls
then c cs = record { calls = c ∷ cs.calls; ending = cs.ending }

-- a whole record is a call, and reading goes on after it; otherwise reading ends
abbrev pub onward : Front → (ℕ → Calls) → Calls
onward (whole c width) after = then c (after width)
onward none after = record { calls = []; ending = ended }
onward unreadable after = record { calls = []; ending = broken }

-- the calls of at most so many records
unfoldable pub calls_within : ℕ → List ℕ → Calls
calls_within zero bytes = record { calls = []; ending = ended }
calls_within (suc fuel) bytes = onward (front_of bytes) (λ width. calls_within fuel (drop width bytes))

-- a file has no more records than bytes
unfoldable pub calls_of : List ℕ → Calls
calls_of bytes = calls_within (length bytes) bytes

-- ---- a record at a place of the file

-- c was read at a place, and the next record is at another
pub record CallAt (bytes : List ℕ) (at : ℕ) (c : Call) (next : ℕ) : Type 0 where
  pub later : at + term_bytes ≤ next
  pub inside : next ≤ length bytes
  pub first : calls_of (drop at bytes) ≡ then c (calls_of (drop next bytes))
  pub sized : Bytes bytes → Sized c

-- reading ended at a record that was refused
pub record Broken (bytes : List ℕ) (at : ℕ) (number : ℕ) : Type 0 where
  pub number_is : number ≡ 3
  pub last : calls_of (drop at bytes) ≡ record { calls = []; ending = broken }
