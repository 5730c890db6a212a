-- The step's rules are kept by code over bytes and two-byte numbers. A word that is wider than its field is handed to it as the
-- largest number of the field, and a run or a term that no field can name is told apart afterwards.
-- Assumes nothing.
use Rattle.std.specs.Prelude.{ℕ, ◌&&◌, cond}
use Rattle.std.proofs.Math.Dec.{ltb}

-- ---- definitions

-- a number, or the largest there is
abbrev pub capped : (most x : ℕ) → ℕ
capped most x = cond (ltb most x) most x

abbrev pub wide_refusal : (run m : ℕ) → ℕ
wide_refusal run m = cond (ltb run 256 && ltb m 65536) 0 6
