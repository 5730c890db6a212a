-- What follows from the definitions of the same name in specs/.
-- Assumes nothing.
use Rattle.std.specs.Prelude.{[], ◌∷◌, ◌≡◌, ℕ, ◌/◌, ◌%◌, ◌^◌, ◌<◌}
use Rattle.std.proofs.Common.{ap, arith}
use Rattle.fields.specs.Bytes.{low, high, bytes16}

-- ---- laws

-- a mark, by its two letters
pub letters : (x : ℕ) → x < 2 ^ 16 → (x / 256) ∷ (x % 256) ∷ [] ≡ bytes16 x
letters x h = ap (λ (k : ℕ). k ∷ low x ∷ []) (small x h)
  where
    small : (x : ℕ) → x < 2 ^ 16 → x / 256 ≡ high x
    small x h = omega arith
