-- Sweeps until one adds nothing: what holds after each, and at the end.
-- Assumes nothing.
use Rattle.std.specs.Prelude.{◌≡◌, refl, true, List, ℕ, ◌-◌, ◌<◌}
use Rattle.std.proofs.Common.{le_refl, arith}
use Rattle.marks.proofs.Grown.{Grown, grown_refl, grown_trans}
use Rattle.marks.specs.Marks.{Words, marked, size}
use Rattle.marks.proofs.Size.{size_le}
use Rattle.terms.specs.Valid.{Valid}
use Rattle.deduction.specs.Derives.{on_wire}
use Rattle.deduction.specs.Known.{Known, Derivable, Filled}
use Rattle.synthesis.specs.Sweep.{sweep_of}
use Rattle.synthesis.proofs.Sweep.{sweep_grown, sweep_sound, sweep_saturated}

-- the set ws, grown to ws', with nothing new that cannot be derived from the terms of ws
pub record Filling (n flags : ℕ) (ts : List ℕ) (count : ℕ) (ws ws' : List ℕ) : Type 0 where
  pub grown : Grown 8 ws ws'
  pub sound : (k : ℕ) → k < count → marked ws' k ≡ true → Derivable n flags ts count ws k

module _ (flags : ℕ) {n : ℕ} {ts : List ℕ} {count : ℕ} (v : Valid n ts count) {ws : List ℕ} where
  pub fill_start : Words 8 ws → Filling n flags ts count ws ws
  fill_start w = record { grown = grown_refl w; sound = λ k h m. on_wire (record { at = k; below = h; mark = m; is = refl }) }

  module _ {s : List ℕ} (f : Filling n flags ts count ws s) where
    pub fill_more : Filling n flags ts count ws (sweep_of flags ts count s)
    fill_more =
        record {
          grown = grown_trans f.grown (sweep_grown flags v count (le_refl count) f.grown.words);
          sound = sweep_sound flags v (Known ts count ws) count (le_refl count) f.grown.words f.sound;
        }

    pub fill_less : (size (sweep_of flags ts count s) ≡ size s → ⊥) → 512 - size (sweep_of flags ts count s) < 512 - size s
    fill_less ne =
        omega (arith, ne, (sweep_grown flags v count (le_refl count) f.grown.words).more, size_le fill_more.grown.words)

    pub fill_done : size (sweep_of flags ts count s) ≡ size s → Filled n flags ts count ws s
    fill_done e = record { holds = λ k _ m. f.grown.keeps k m; sound = f.sound; full = sweep_saturated flags v f.grown.words e }
