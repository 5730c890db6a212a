-- What follows from the definitions of the same name in specs/.
-- Assumes nothing.
use Rattle.std.specs.Prelude.{◌≡◌, refl, drop, Option, Some, None}
use Rattle.std.proofs.Common.{sym, ◌∙◌, arith, length-append}
use Rattle.std.proofs.Math.Path.{ap}
use mathlib.Core.List.{List, [], ◌++◌, append_assoc, append-nil}
use Prim.Native.Nat.{ℕ, zero, suc, ◌+◌, ◌*◌, ◌-◌, ◌<◌, ◌≤◌}
use Rattle.std.proofs.Math.ListN.{length, length-drop}
use borrow.Rule.Slice.PartMut.{mid_of, put_mid}
use Rattle.exchange.specs.declared.header.Format.{Format}
use Rattle.exchange.specs.declared.header.Flags.{Flags}
use Rattle.exchange.specs.declared.header.Flags.TheVariants.{Bits16, Bits32}
use Rattle.exchange.specs.declared.header.Header.{Header}
use Rattle.exchange.specs.Formats.{format_of}
use Rattle.records.specs.Headers.{max_file, lives_at, format_bytes, header_width}
use Rattle.raw_records.specs.declared.raw.RawRecord.{RawRecord}
use Rattle.raw_records.specs.declared.raw.RawRecord.TheVariants.{Term, Step}
use Rattle.raw_records.specs.Raw.{records_of, raw_at}
use Rattle.raw_records.proofs.RawLaws.{record_next, none_left, cut_short}
use Rattle.raw_records.proofs.Passing.{records_from}
use Rattle.fields.proofs.Parts.{part_wrote, nothing_wrote}
use Rattle.fields.specs.Placed.{Wrote}
use Rattle.fields.proofs.Placed.{joined, wrote_as}
use Rattle.writer.specs.File.{front_in_bytes, lives_in_bytes, header_as, header_in_bytes, record_in_bytes, records_in_bytes}
use Rattle.writer.specs.Progress.{Measures}

-- the bytes of i records were written from `at` on
pub record Progress (before : List ℕ) (at : ℕ) (words : List ℕ) (after : List ℕ) (end i : ℕ) : Type 0 where
  pub done : List ℕ
  pub whole : done ++ records_in_bytes (records_from words i) ≡ records_in_bytes (records_of words)
  pub wrote : Wrote before at done after end

-- ---- bytes

pub record_short : (raw : Option RawRecord) → length (record_in_bytes raw) ≤ 12
unfolding record_in_bytes
record_short (Some (Term kind l r)) = omega arith
record_short (Some (Step step run a b m t)) = omega arith
record_short None = omega arith

pub front_long : (width : Flags) (g : Header) → length (front_in_bytes width g) ≡ lives_at width
front_long Bits16 g = refl
front_long Bits32 g = refl

pub header_is : (g : Header) (l : Option Format) → format_of g.mark ≡ l → header_as l g ≡ header_in_bytes g
unfolding header_in_bytes
header_is g l e = ap (λ (x : Option Format). header_as x g) (sym e)

pub header_long : (g : Header) → length (header_in_bytes g) ≡ header_width g.mark
unfolding header_in_bytes header_width
header_long g = by (format_of g.mark)
  where
    by : (l : Option Format) → length (header_as l g) ≡ format_bytes l
    by (Some f) = length-append (front_in_bytes f.flags g) (lives_in_bytes g.ls g.la) ∙ ap (λ (k : ℕ). k + 8) (front_long f.flags g)
    by None = refl

module _ (words : List ℕ) (i : ℕ) where
  pub body_next : i * 7 + 7 ≤ length words → records_in_bytes (records_from words i) ≡ record_in_bytes (raw_at words (i * 7)) ++ records_in_bytes (records_from words (i + 1))
  body_next h = ap records_in_bytes (record_next words i h)

  pub length_next : i * 7 + 7 ≤ length words → {k : ℕ} {raw : Option RawRecord} → raw ≡ raw_at words (i * 7) → k ≡ length (record_in_bytes raw)
      → length (records_in_bytes (records_from words i)) ≡ k + length (records_in_bytes (records_from words (i + 1)))
  length_next h {k} {raw} e l =
      ap (λ (b : List ℕ). length b) (body_next h)
      ∙ length-append (record_in_bytes (raw_at words (i * 7))) (records_in_bytes (records_from words (i + 1)))
      ∙ ap (λ (j : ℕ). j + length (records_in_bytes (records_from words (i + 1)))) (sym (l ∙ ap (λ (x : Option RawRecord). length (record_in_bytes x)) e))

  pub body_end : i * 7 ≤ length words → length words < i * 7 + 7 → records_in_bytes (records_from words i) ≡ []
  unfolding record_in_bytes
  body_end l h = on (length words - i * 7) (length-drop (i * 7) words)
    where
      on : (k : ℕ) → length (drop (i * 7) words) ≡ k → records_in_bytes (records_from words i) ≡ []
      on zero e = ap records_in_bytes (none_left (drop (i * 7) words) e)
      on (suc k) e = ap records_in_bytes (cut_short (drop (i * 7) words) (omega arith) (omega (arith, length-drop (i * 7) words)))

pub measured_above : (r bytes : ℕ) → max_file < r → r ≤ bytes → Measures r bytes
measured_above r bytes h l = record { exact = λ s. absurd (omega arith); above = λ s. h }

pub measured_end : (r bytes : ℕ) → r ≡ bytes → Measures r bytes
measured_end r bytes e = record { exact = λ s. e; above = λ s. omega arith }

-- ---- no record

pub none_wrote : (xs : List ℕ) {raw : Option RawRecord} → raw ≡ None → Wrote xs 0 (record_in_bytes raw) xs 0
unfolding record_in_bytes
none_wrote xs e = wrote_as (sym (ap record_in_bytes e)) (nothing_wrote xs 0)

-- ---- one record after the other

module _ (before : List ℕ) (at : ℕ) (words : List ℕ) (room : at + length (records_in_bytes (records_of words)) ≤ length before) where
  pub starts : Progress before at words before at 0
  starts = record { done = []; whole = refl; wrote = at_start }
    where
      plain : (at : ℕ) → at + 0 ≡ at
      plain at = omega arith

      at_start : Wrote before at [] before at
      at_start = record { contents = (nothing_wrote before at).contents; offset = sym (plain at) }

  module _ (after : List ℕ) (end i : ℕ) (p : Progress before at words after end i) where
    pub end_within : end ≤ length before
    end_within = omega (arith, room, p.wrote.offset, length-append p.done (records_in_bytes (records_from words i)), ap (λ (b : List ℕ). length b) p.whole)

    pub next_fits : i * 7 + 7 ≤ length words → {raw : Option RawRecord} → raw ≡ raw_at words (i * 7) → end + length (record_in_bytes raw) ≤ length before
    next_fits h {raw} e =
        omega (
          arith,
          room,
          p.wrote.offset,
          length-append p.done (records_in_bytes (records_from words i)),
          ap (λ (b : List ℕ). length b) p.whole,
          length_next words i h e refl,
        )

    pub goes_on : i * 7 + 7 ≤ length words → {raw : Option RawRecord} → raw ≡ raw_at words (i * 7) → {part : List ℕ} {n : ℕ}
        → Wrote (mid_of end (length after - end) after) 0 (record_in_bytes raw) part n
        → Progress before at words (put_mid end (length after - end) after part) (end + n) (i + 1)
    goes_on h {raw} e {part} {n} w = record {
      done = p.done ++ record_in_bytes raw;
      whole = append_assoc p.done (record_in_bytes raw) (records_in_bytes (records_from words (i + 1)))
          ∙ ap (λ (x : Option RawRecord). p.done ++ (record_in_bytes x ++ records_in_bytes (records_from words (i + 1)))) e
          ∙ ap (λ (b : List ℕ). p.done ++ b) (sym (body_next words i h))
          ∙ p.whole;
      wrote = joined (omega (arith, room)) p.wrote (part_wrote after end (record_in_bytes raw) w);
    }

    pub finishes : i * 7 ≤ length words → length words < i * 7 + 7 → Wrote before at (records_in_bytes (records_of words)) after end
    finishes l h =
        wrote_as (sym (append-nil p.done) ∙ ap (λ (b : List ℕ). p.done ++ b) (sym (body_end words i l h)) ∙ p.whole) p.wrote
