-- What follows from the definitions of the same name in specs/.
-- Assumes nothing.
use Rattle.std.specs.Prelude.{List, [], ◌∷◌, ◌≡◌, refl, Bool, true, false, cond, ltb, leb, Option, Ok, Err}
use Rattle.std.proofs.Common.{sym, ◌∙◌, arith, le-leb, lt-ltb, le-ltb, ltb-true, ltb-false, leb-true, length-append}
use Rattle.std.proofs.Math.Path.{ap}
use Prim.Native.Nat.{ℕ, zero, suc, ◌+◌, ◌-◌, ◌<◌, ◌≤◌}
use Rattle.std.proofs.lemmas.Bool.{lt-leb}
use Rattle.std.proofs.Math.ListN.{length}
use Rattle.exchange.specs.declared.header.Header.{Header}
use Rattle.realm.specs.Opening.{header_refusal}
use Rattle.records.specs.Headers.{max_file, header_width}
use Rattle.raw_records.specs.declared.raw.RawRecord.{RawRecord}
use Rattle.raw_records.specs.Raw.{records_of}
use Rattle.raw_records.specs.Refusals.{first, first_of, records_refusal}
use Rattle.raw_records.proofs.Refusals.{first_zero}
use Rattle.fields.specs.Placed.{Wrote}
use Rattle.writer.specs.File.{header_in_bytes, records_in_bytes, file_of}
use Rattle.writer.specs.Progress.{Measures}
use Rattle.writer.proofs.Progress.{header_long}
use Rattle.writer.specs.Write.{write_outcome, length_refusal, room_refusal, measured_refusal, write_refusal, by_refusal, write_of, WalkPasses}

-- ---- laws: by the way out

module _ (places at bytes : ℕ) where
  pub no_room : places < at + bytes → 21 ≡ room_refusal places at bytes
  no_room h = rw (lt-leb (at + bytes) places h)

  pub some_room : at + bytes ≤ places → 0 ≡ room_refusal places at bytes
  some_room h = rw (le-leb (at + bytes) places h)

-- ---- laws: the refusals, one after the other

-- the file's length
pub file_length : (g : Header) (raws : List (Option RawRecord)) → length (file_of g raws) ≡ header_width g.mark + length (records_in_bytes raws)
unfolding file_of
file_length g raws = length-append (header_in_bytes g) (records_in_bytes raws) ∙ ap (λ (k : ℕ). k + length (records_in_bytes raws)) (header_long g)

-- of two numbers the second, where the first is 0
pub first_later : (a b : ℕ) → a ≡ 0 → first a b ≡ b
first_later a b z = rw z refl

-- a length above the limit decides, whatever it is
long_decides : (bytes whole header raws places at : ℕ) → Measures bytes whole
    → first_of (length_refusal bytes ∷ header ∷ raws ∷ room_refusal places at bytes ∷ []) ≡ first_of (length_refusal whole ∷ header ∷ raws ∷ room_refusal places at whole ∷ [])
long_decides bytes whole header raws places at m = on (ltb max_file whole) refl
  where
    on : (t : Bool) → ltb max_file whole ≡ t
        → first_of (length_refusal bytes ∷ header ∷ raws ∷ room_refusal places at bytes ∷ []) ≡ first_of (length_refusal whole ∷ header ∷ raws ∷ room_refusal places at whole ∷ [])
    on true e = rw (e, lt-ltb max_file bytes (m.above (ltb-true max_file whole e)))
    on false e = ap (λ (k : ℕ). first_of (length_refusal k ∷ header ∷ raws ∷ room_refusal places at k ∷ [])) (m.exact (ltb-false max_file whole e))

module _ (g : Header) (raws : List (Option RawRecord)) (places at : ℕ) {bytes : ℕ} (m : Measures bytes (header_width g.mark + length (records_in_bytes raws))) where
  -- the refusals, by the bytes that the code measures
  pub by_measure : measured_refusal bytes g raws places at ≡ write_refusal g raws places at
  unfolding write_refusal
  by_measure =
      rw (file_length g raws) (long_decides bytes (header_width g.mark + length (records_in_bytes raws)) (header_refusal g) (records_refusal g.n raws) places at m)

picked_zero : (t : Bool) (k : ℕ) → ◌≡◌ {A = ℕ} (cond t 0 (suc k)) 0 → t ≡ true
picked_zero true k e = refl
picked_zero false k e = absurd (omega arith)

picked_other : (t : Bool) (k : ℕ) → ◌≡◌ {A = ℕ} (cond t (suc k) 0) 0 → t ≡ false
picked_other true k e = absurd (omega arith)
picked_other false k e = refl

pub zero_passes : (g : Header) (raws : List (Option RawRecord)) (places at : ℕ) → write_refusal g raws places at ≡ 0 → WalkPasses g raws places at
unfolding write_refusal
zero_passes g raws places at e =
    let bytes : ℕ = length (file_of g raws) in
    let p = first_zero (length_refusal bytes) (first_of (header_refusal g ∷ records_refusal g.n raws ∷ room_refusal places at bytes ∷ [])) e in
    let q = first_zero (header_refusal g) (first_of (records_refusal g.n raws ∷ room_refusal places at bytes ∷ [])) p.1 in
    let r = first_zero (records_refusal g.n raws) (first_of (room_refusal places at bytes ∷ [])) q.1 in
    let s = first_zero (room_refusal places at bytes) 0 r.1 in
    record {
      short = ltb-false max_file bytes (picked_other (ltb max_file bytes) 0 p.0);
      header = q.0;
      records = r.0;
      room = leb-true (at + bytes) places (picked_zero (leb (at + bytes) places) 20 s.0);
    }

module _ (g : Header) (words buffer : List ℕ) (at : ℕ) where
  pub refused : (k : ℕ) → k ≡ write_refusal g (records_of words) (length buffer) at → (k ≡ 0 → ⊥) → write_outcome (Err k) buffer ≡ write_of g words buffer at
  unfolding write_of
  refused zero e s = absurd (s refl)
  refused (suc k) e s = ap (λ (r : ℕ). by_refusal r buffer at (file_of g (records_of words))) e

  pub written : (k : ℕ) → k ≡ write_refusal g (records_of words) (length buffer) at → k ≡ 0 → {after : List ℕ} {end : ℕ}
      → Wrote buffer at (file_of g (records_of words)) after end → write_outcome (Ok (end - at)) after ≡ write_of g words buffer at
  unfolding write_of
  written k e z {after} {end} w =
      ap (λ (j : ℕ). write_outcome (Ok j) after) (omega (arith, w.offset))
      ∙ ap (write_outcome (Ok (length (file_of g (records_of words))))) w.contents
      ∙ ap (λ (r : ℕ). by_refusal r buffer at (file_of g (records_of words))) (sym z ∙ e)

pub passes_zero : (g : Header) (raws : List (Option RawRecord)) (places at : ℕ) → WalkPasses g raws places at → write_refusal g raws places at ≡ 0
unfolding write_refusal
passes_zero g raws places at a =
    let bytes : ℕ = length (file_of g raws) in
    rw (le-ltb max_file bytes a.short, a.header, a.records, le-leb (at + bytes) places a.room)
