-- Reading a numbered thing whose parts have lower numbers: f i g is the reading of number i, where g reads its parts.
-- Numbers fall, so i + 1 layers are enough; `descend_at` is the equation by which everybody uses the reading.
-- Assumes nothing.
use Prim.Native.Nat.{ℕ, zero, suc}

-- by at most `depth` layers; `bottom` stands for what is not reached
unfoldable pub layers : {X : Type 0} (bottom : X) (f : ℕ → (ℕ → X) → X) (depth i : ℕ) → X
layers bottom f zero i = bottom
layers bottom f (suc depth) i = f i (layers bottom f depth)

unfoldable pub descend : {X : Type 0} (bottom : X) (f : ℕ → (ℕ → X) → X) → ℕ → X
descend bottom f i = layers bottom f (suc i) i
