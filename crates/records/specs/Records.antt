-- A record after the header: "TM, kind (1), L (2), R (2); ST, step (1), run (1), a (1), b (1), m (2), t (4)". Refusal 3: "a mark
-- other than TM or ST after the first record, or a record cut short".
-- Assumes nothing.
use Rattle.std.specs.Prelude.{◌≡◌, true, false, cond, Option, Some, None, Result, Ok, Err, List, ℕ, ◌+◌, ◌<◌, eqb, length, drop}
use Rattle.exchange.specs.declared.call.Call.{Call}
use Rattle.exchange.specs.declared.call.Call.TheVariants.{Term, Step}
use Rattle.records.specs.declared.record.Record.{Record}
use Rattle.records.specs.Fields.{byte, number16, number32, begins}

-- the letters TM and ST
abbrev pub term_mark : ℕ
term_mark = 0x544D

abbrev pub step_mark : ℕ
step_mark = 0x5354

abbrev pub term_bytes : ℕ
term_bytes = 7

abbrev pub step_bytes : ℕ
step_bytes = 12

-- kind, L, R
abbrev pub term_call : List ℕ → Call
term_call bytes = Term (byte bytes 2) (number16 bytes 3) (number16 bytes 5)

-- step, run, a, b, m, t
abbrev pub step_call : List ℕ → Call
step_call bytes = Step (byte bytes 2) (byte bytes 3) (byte bytes 4) (byte bytes 5) (number16 bytes 6) (number32 bytes 8)

-- what stands at the front of the rest of a file: a whole record, its call and how many bytes it takes; no record, at the end;
-- or one that is refused
pub data Front : Type 0 where
  whole : Call → ℕ → Front
  none : Front
  unreadable : Front

unfoldable pub front_of : List ℕ → Front
front_of bytes =
    cond (eqb (length bytes) 0) none
    (cond (begins term_mark term_bytes bytes) (whole (term_call bytes) term_bytes)
    (cond (begins step_mark step_bytes bytes) (whole (step_call bytes) step_bytes)
    unreadable))

-- the same, where the rest begins at a place of the file
abbrev pub told : ℕ → Front → Result (Option Record) ℕ
told at (whole c width) = Ok (Some (record { call = c; next = at + width }))
told at none = Ok None
told at unreadable = Err 3

-- the record that begins at a place of the file
unfoldable pub record_at : List ℕ → ℕ → Result (Option Record) ℕ
record_at bytes at = told at (front_of (drop at bytes))

-- ---- the ways out are all

-- what reading at the front found, and what it says of the bytes
pub data Finds (bytes : List ℕ) : Front → Type 0 where
  at_end : length bytes ≡ 0 → Finds bytes none
  at_term : begins term_mark term_bytes bytes ≡ true → Finds bytes (whole (term_call bytes) term_bytes)
  at_step : begins step_mark step_bytes bytes ≡ true → Finds bytes (whole (step_call bytes) step_bytes)
  at_fault : 0 < length bytes → begins term_mark term_bytes bytes ≡ false → begins step_mark step_bytes bytes ≡ false → Finds bytes unreadable
