-- The packed set of the numbers below a bound that pass a test, and that no other words of its width have the same members.
-- Assumes nothing.
use Rattle.std.specs.Prelude.{Bool, cond, List, replicate}
use Prim.Native.Nat.{ℕ, zero, suc}
use Rattle.marks.specs.Marks.{with_mark}

-- ---- definitions

-- the numbers below n that pass the test, in k words
unfoldable pub set_of : (k : ℕ) → (ℕ → Bool) → (n : ℕ) → List ℕ
set_of k test zero = replicate k 0
set_of k test (suc n) = cond (test n) (with_mark (set_of k test n) n) (set_of k test n)
