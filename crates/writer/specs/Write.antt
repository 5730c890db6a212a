-- Writing a walk (document 02, change 1): the answer, and the whole buffer afterwards.
-- Assumes nothing.
use Rattle.std.specs.Prelude.{List, [], ◌∷◌, ◌≡◌, cond, ltb, leb, Option, Result, Ok, Err}
use Prim.Native.Nat.{ℕ, zero, suc, ◌+◌, ◌≤◌}
use Rattle.std.proofs.Math.ListN.{length}
use Rattle.exchange.specs.declared.header.Header.{Header}
use Rattle.realm.specs.Opening.{header_refusal}
use Rattle.records.specs.Headers.{max_file}
use Rattle.raw_records.specs.declared.raw.RawRecord.{RawRecord}
use Rattle.raw_records.specs.Raw.{records_of}
use Rattle.raw_records.specs.Refusals.{first_of, records_refusal}
use Rattle.fields.specs.Placed.{placed}
use Rattle.writer.specs.File.{file_of}

-- the answer, and the buffer after it
pub record WriteOutcome : Type 0 where
  pub answer : Result ℕ ℕ
  pub buffer : List ℕ

abbrev pub write_outcome : Result ℕ ℕ → List ℕ → WriteOutcome
write_outcome r buffer = record { answer = r; buffer = buffer }

-- "file over 65,536 bytes"
abbrev pub length_refusal : (bytes : ℕ) → ℕ
length_refusal bytes = cond (ltb max_file bytes) 1 0

-- "21 if fewer bytes are left at the offset than the walk needs, an offset past the end included"
abbrev pub room_refusal : (places at bytes : ℕ) → ℕ
room_refusal places at bytes = cond (leb (at + bytes) places) 0 21

-- "1 and 2 first, then by record; 21 .. looked at last"
unfoldable pub write_refusal : (g : Header) → List (Option RawRecord) → (places at : ℕ) → ℕ
write_refusal g raws places at =
    let bytes : ℕ = length (file_of g raws) in
    first_of (length_refusal bytes ∷ header_refusal g ∷ records_refusal g.n raws ∷ room_refusal places at bytes ∷ [])

-- the same of the bytes that are measured, which are too many where the file has too many
abbrev pub measured_refusal : (bytes : ℕ) (g : Header) (raws : List (Option RawRecord)) (places at : ℕ) → ℕ
measured_refusal bytes g raws places at =
    first_of (length_refusal bytes ∷ header_refusal g ∷ records_refusal g.n raws ∷ room_refusal places at bytes ∷ [])

-- "puts a header and a list of records into bytes .. and gives back the count written"; "Refused, with every byte of the buffer kept"
abbrev pub by_refusal : (refusal : ℕ) (buffer : List ℕ) (at : ℕ) (file : List ℕ) → WriteOutcome
by_refusal zero buffer at file = write_outcome (Ok (length file)) (placed buffer at file)
by_refusal (suc k) buffer at file = write_outcome (Err (suc k)) buffer

unfoldable pub write_of : (g : Header) (words : List ℕ) (buffer : List ℕ) (at : ℕ) → WriteOutcome
write_of g words buffer at =
    by_refusal (write_refusal g (records_of words) (length buffer) at) buffer at (file_of g (records_of words))

-- what a walk that was written has
pub record WalkPasses (g : Header) (raws : List (Option RawRecord)) (places at : ℕ) : Type 0 where
  pub short : length (file_of g raws) ≤ max_file
  pub header : header_refusal g ≡ 0
  pub records : records_refusal g.n raws ≡ 0
  pub room : at + length (file_of g raws) ≤ places
