-- A walk of one step and one term, written into a buffer with room before and behind it, and the refusals in their order.
-- Assumes nothing.
use Rattle.std.specs.Prelude.{◌≡◌, refl, List, [], ◌∷◌, ◌++◌, ℕ, replicate, Ok, Err}
use Rattle.marks.specs.Bits.{bit}
use Rattle.marks.specs.Marks.{is_set}
use Rattle.realm.specs.Input.{uses_table, in_range, input_refusal}
use Rattle.exchange.specs.declared.header.Header.{Header}
use Rattle.exchange.specs.Formats.{formats}
use Rattle.realm.specs.Opening.{header_fits, header_refusal}
use Rattle.raw_records.specs.Raw.{raw_by, records_of}
use Rattle.raw_records.specs.Refusals.{term_refusal, own_refusal}
use Rattle.fields.specs.Placed.{placed}
use Rattle.writer.specs.File.{header_in_bytes, record_in_bytes, file_of}
use Rattle.writer.specs.Write.{write_outcome, write_refusal, write_of}

-- Ls 100, La 10
abbrev headed : (mark n flags : ℕ) → Header
headed mark n flags = record { mark = mark; n = n; flags = flags; ls = 100; la = 10 }

-- ST 1 (a 1, b 2)
abbrev step : List ℕ
step = 0x5354 ∷ 1 ∷ 0 ∷ 1 ∷ 2 ∷ 0 ∷ 0 ∷ []

-- TM 5 (15, 16), and what stands behind a term's fields
abbrev term : List ℕ
term = 0x544D ∷ 5 ∷ 15 ∷ 16 ∷ 9 ∷ 9 ∷ 9 ∷ []

-- ST 11 does not exist
abbrev no_step : List ℕ
no_step = 0x5354 ∷ 11 ∷ 0 ∷ 0 ∷ 0 ∷ 0 ∷ 0 ∷ []

-- HD, n 3, flags 0, Ls 100, La 10; ST; TM
abbrev file : List ℕ
file =
    0x48 ∷ 0x44 ∷ 3 ∷ 0 ∷ 0 ∷ 0 ∷ 0 ∷ 0 ∷ 100 ∷ 0 ∷ 0 ∷ 0 ∷ 10 ∷ 0x53 ∷ 0x54 ∷ 1 ∷ 0 ∷ 1 ∷ 2 ∷ 0 ∷ 0 ∷ 0 ∷ 0 ∷ 0 ∷ 0
    ∷ 0x54 ∷ 0x4D ∷ 5 ∷ 0 ∷ 15 ∷ 0 ∷ 16 ∷ []

-- 32 bytes from offset 2 on, in a buffer of 35
pub two_records : write_of (headed 0x4844 3 0) (step ++ term) (replicate 35 7) 2 ≡ write_outcome (Ok 32) ((7 ∷ 7 ∷ []) ++ file ++ (7 ∷ []))
unfolding write_of write_refusal file_of header_in_bytes record_in_bytes records_of raw_by own_refusal term_refusal input_refusal uses_table in_range header_refusal header_fits formats is_set bit placed
two_records = refl

-- one byte short
pub no_room : write_of (headed 0x4844 3 0) (step ++ term) (replicate 33 7) 2 ≡ write_outcome (Err 21) (replicate 33 7)
unfolding write_of write_refusal file_of header_in_bytes record_in_bytes records_of raw_by own_refusal term_refusal input_refusal uses_table in_range header_refusal header_fits formats is_set bit placed
no_room = refl

-- an offset past the end, and a step that does not exist: the record comes first
pub record_first : write_of (headed 0x4844 3 0) (step ++ no_step) (replicate 3 7) 4 ≡ write_outcome (Err 4) (replicate 3 7)
unfolding write_of write_refusal file_of header_in_bytes record_in_bytes records_of raw_by own_refusal term_refusal input_refusal uses_table in_range header_refusal header_fits formats is_set bit placed
record_first = refl

-- and two principals: the header comes before the record
pub header_first : write_of (headed 0x4844 2 0) (step ++ no_step) (replicate 3 7) 4 ≡ write_outcome (Err 2) (replicate 3 7)
unfolding write_of write_refusal file_of header_in_bytes record_in_bytes records_of raw_by own_refusal term_refusal input_refusal uses_table in_range header_refusal header_fits formats is_set bit placed
header_first = refl

-- a last record cut short
pub cut_short : write_of (headed 0x4844 3 0) (step ++ 0x544D ∷ []) (replicate 3 7) 4 ≡ write_outcome (Err 3) (replicate 3 7)
unfolding write_of write_refusal file_of header_in_bytes record_in_bytes records_of raw_by own_refusal term_refusal input_refusal uses_table in_range header_refusal header_fits formats is_set bit placed
cut_short = refl

-- ---- the marks of change 2 of document 02

-- HW, n 32, flags on principals 16 and 31, no records
abbrev wide : List ℕ
wide = 0x48 ∷ 0x57 ∷ 32 ∷ 0x80 ∷ 1 ∷ 0 ∷ 0 ∷ 0 ∷ 0 ∷ 0 ∷ 100 ∷ 0 ∷ 0 ∷ 0 ∷ 10 ∷ []

pub wide_header : write_of (headed 0x4857 32 0x80010000) [] (replicate 16 7) 0 ≡ write_outcome (Ok 15) (wide ++ (7 ∷ []))
unfolding write_of write_refusal file_of header_in_bytes records_of raw_by header_refusal header_fits formats is_set bit placed
wide_header = refl

-- the same under HD, whose limit is 16
pub too_many : write_of (headed 0x4844 32 0x80010000) [] (replicate 16 7) 0 ≡ write_outcome (Err 2) (replicate 16 7)
unfolding write_of write_refusal file_of header_in_bytes records_of raw_by header_refusal header_fits formats is_set bit placed
too_many = refl

-- a mark that is not known, whatever comes with it
pub no_mark : write_of (headed 0x4858 2 1) no_step (replicate 3 7) 4 ≡ write_outcome (Err 1) (replicate 3 7)
unfolding write_of write_refusal file_of header_in_bytes record_in_bytes records_of raw_by own_refusal term_refusal input_refusal uses_table in_range header_refusal header_fits formats is_set bit placed
no_mark = refl
