-- What follows from the definitions of the same name in specs/.
-- Assumes nothing.
use Rattle.std.specs.Prelude.{◌≡◌, refl, List, ℕ, zero, suc, ◌+◌, ◌≤◌, length, take, drop, Ok, Err}
use Rattle.std.proofs.Common.{sym, ap, ◌∙◌, arith}
use Rattle.exchange.specs.declared.header.Header.{Header}
use Rattle.raw_records.specs.Raw.{records_of}
use Rattle.fields.specs.Placed.{placed}
use Rattle.fields.proofs.Placed.{placed_before, placed_there, placed_behind}
use Rattle.writer.specs.File.{file_of}
use Rattle.writer.specs.Write.{WriteOutcome, write_outcome, write_refusal, by_refusal, write_of}
use Rattle.writer.proofs.Write.{zero_passes}
use Rattle.written_walks.specs.Stands.{WalkStands}

counted : (k : ℕ) (buffer : List ℕ) (at : ℕ) (file : List ℕ) (count : ℕ) (after : List ℕ) → by_refusal k buffer at file ≡ write_outcome (Ok count) after
    → (k ≡ 0) × (count ≡ length file) × (after ≡ placed buffer at file)
counted zero buffer at file count after e =
    let answers = ap (λ (o : WriteOutcome). o.answer) e in
    let same : length file ≡ count = cc in
    (refl, sym same, sym (ap (λ (o : WriteOutcome). o.buffer) e))
counted (suc k) buffer at file count after e =
    let answers = ap (λ (o : WriteOutcome). o.answer) e in
    let z : ◌≡◌ {A = ℕ} 0 1 = cc in
    absurd (omega arith)

kept_by : (k : ℕ) (buffer : List ℕ) (at : ℕ) (file : List ℕ) (number : ℕ) (after : List ℕ) → by_refusal k buffer at file ≡ write_outcome (Err number) after → after ≡ buffer
kept_by zero buffer at file number after e =
    let answers = ap (λ (o : WriteOutcome). o.answer) e in
    let z : ◌≡◌ {A = ℕ} 0 1 = cc in
    absurd (omega arith)
kept_by (suc k) buffer at file number after e = sym (ap (λ (o : WriteOutcome). o.buffer) e)

module _ (g : Header) (words buffer : List ℕ) (at : ℕ) where
  abbrev file : List ℕ
  file = file_of g (records_of words)

  pub walk_stands : (count : ℕ) (after : List ℕ) → write_of g words buffer at ≡ write_outcome (Ok count) after → WalkStands g words buffer at count after
  unfolding write_of
  walk_stands count after e =
      let c = counted (write_refusal g (records_of words) (length buffer) at) buffer at file count after e in
      record { passed = zero_passes g (records_of words) (length buffer) at c.0; count_is = c.1; after_is = c.2 }

  pub refused_kept : (number : ℕ) (after : List ℕ) → write_of g words buffer at ≡ write_outcome (Err number) after → after ≡ buffer
  unfolding write_of
  refused_kept number after e = kept_by (write_refusal g (records_of words) (length buffer) at) buffer at file number after e

  module _ (count : ℕ) (after : List ℕ) (d : WalkStands g words buffer at count after) where
    within : at ≤ length buffer
    within = omega (arith, d.passed.room)

    -- the bytes at the offset are the file,
    pub file_at : take count (drop at after) ≡ file
    file_at =
        ap (λ (k : ℕ). take k (drop at after)) d.count_is ∙ ap (λ (xs : List ℕ). take (length file) (drop at xs)) d.after_is
        ∙ placed_there buffer at file within

    -- and those before it and behind it are the buffer's
    pub before_kept : take at after ≡ take at buffer
    before_kept = ap (λ (xs : List ℕ). take at xs) d.after_is ∙ placed_before buffer at file within

    pub behind_kept : drop (at + count) after ≡ drop (at + count) buffer
    behind_kept =
        ap (λ (k : ℕ). drop (at + k) after) d.count_is ∙ ap (λ (xs : List ℕ). drop (at + length file) xs) d.after_is ∙ placed_behind buffer at file within
        ∙ ap (λ (k : ℕ). drop (at + k) buffer) (sym d.count_is)
