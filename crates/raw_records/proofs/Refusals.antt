-- What follows from the definitions of the same name in specs/.
-- Assumes nothing.
use Rattle.std.proofs.Math.Path.{◌≡◌}
use Rattle.std.specs.Prelude.{refl, ℕ, zero, suc}
use Rattle.std.proofs.Common.{arith}
use Rattle.raw_records.specs.Refusals.{first}

-- ---- laws: by the way out

pub first_some : (a b : ℕ) → (a ≡ 0 → ⊥) → a ≡ first a b
first_some zero b n = absurd (n refl)
first_some (suc a) b n = refl

pub first_none : (a : ℕ) → first a 0 ≡ a
first_none zero = refl
first_none (suc a) = refl

pub first_zero : (a b : ℕ) → first a b ≡ 0 → (a ≡ 0) × (b ≡ 0)
first_zero zero b e = (refl, e)
first_zero (suc a) b e = absurd (omega arith)
