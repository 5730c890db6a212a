-- What is promised of a walk that was written (document 02, change 1), of the writer and so of `pogandir_write`. The contract of
-- `write_walk` is the equation of its answer and of the whole buffer with `write_of` (writer/specs/Write, over File and over the
-- records and refusals of `raw_records`); these are laws of `write_of`. What the engine then answers to the records is in
-- `written_answers`.
-- Assumes nothing.
use Rattle.std.specs.Prelude.{◌≡◌, List, map, ℕ, ◌+◌, ◌≤◌, length, take, drop, Ok, Err}
use Rattle.std.proofs.Common.{sym, subst}
use Rattle.exchange.specs.declared.call.Call.{Call}
use Rattle.exchange.specs.declared.header.Header.{Header}
use Rattle.exchange.specs.Formats.{HeaderSized}
use Rattle.realm.proofs.HeaderLaws.{taken}
use Rattle.realm.specs.Opening.{header_refusal}
use Rattle.records.specs.Fields.{Bytes}
use Rattle.raw_records.specs.Calls.{calls_from, raw_for, words_for}
use Rattle.raw_records.specs.Fit.{Words32}
use Rattle.raw_records.proofs.Fit.{records_fit}
use Rattle.raw_records.specs.Raw.{records_of}
use Rattle.raw_records.specs.Refusals.{records_refusal}
use Rattle.fields.specs.Placed.{placed}
use Rattle.writer.specs.Write.{write_outcome, write_of, WalkPasses}
use Rattle.written_walks.specs.ReadBack.{ReadsAs}
use Rattle.written_walks.proofs.ReadBack.{file_back, written_again}
use Rattle.written_walks.proofs.Stands as stands
use Rattle.written_walks.specs.Stands.{WalkStands}
use Rattle.written_walks.proofs.Stands.{walk_stands, file_at, before_kept, behind_kept}

-- ---- a walk that was refused

-- "Refused, with every byte of the buffer kept"
pub refused_kept : (g : Header) (words buffer : List ℕ) (at number : ℕ) (after : List ℕ)
    → write_of g words buffer at ≡ write_outcome (Err number) after → after ≡ buffer
refused_kept g words buffer at number after e = stands.refused_kept g words buffer at number after e

-- ---- a walk that was written

module _ (g : Header) (words buffer : List ℕ) (at count : ℕ) (after : List ℕ) (e : write_of g words buffer at ≡ write_outcome (Ok count) after) where
  it_stands : WalkStands g words buffer at count after
  it_stands = walk_stands g words buffer at count after e

  -- "It writes only what the reader takes past 1 to 6 on its own fields": the file is short enough, its header passes 1 and 2, and its
  -- records pass by their own fields.
  pub written_passes : WalkPasses g (records_of words) (length buffer) at
  written_passes = it_stands.passed

  -- "What it wrote is read back as the same records": the bytes at the offset, as many as were counted, are a file of this header
  -- and these records, to its end.
  pub read_back : HeaderSized g → Words32 words → ReadsAs (take count (drop at after)) g (calls_from (records_of words))
  read_back h w =
      subst (λ (bytes : List ℕ). ReadsAs bytes g (calls_from (records_of words))) (sym (file_at g words buffer at count after it_stands))
      (file_back g (records_of words) (taken g h.2 h.3 it_stands.passed.header) h.2 h.3 it_stands.passed.short
      (records_fit g.n h.0 words w it_stands.passed.records))

  -- "All other bytes of the buffer keep their values."
  pub others_kept : (take at after ≡ take at buffer) × (drop (at + count) after ≡ drop (at + count) buffer)
  others_kept = (before_kept g words buffer at count after it_stands, behind_kept g words buffer at count after it_stands)

-- ---- a file that was read

-- "and a file so read is written back as the same bytes": a header and calls that were read from a file to its end, and that pass
-- by their own fields
pub write_back : (bytes : List ℕ) → Bytes bytes → (g : Header) (calls : List Call) → ReadsAs bytes g calls
    → header_refusal g ≡ 0 → records_refusal g.n (map raw_for calls) ≡ 0 → (buffer : List ℕ) (at : ℕ) → at + length bytes ≤ length buffer
    → write_of g (words_for calls) buffer at ≡ write_outcome (Ok (length bytes)) (placed buffer at bytes)
write_back bytes b g calls r fits own buffer at room = written_again bytes b g calls r buffer at fits own room
