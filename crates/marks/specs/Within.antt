-- A packed set all of whose members are below a bound (document 01, refusal 10: "a wire mark past the last term").
-- Assumes nothing.
use Rattle.std.specs.Prelude.{◌≡◌, Bool, true, not, ◌&&◌, List, ℕ, zero, suc, ◌+◌, ◌*◌, ◌-◌, ◌<◌, length}
use Rattle.marks.specs.Marks.{marked}

-- ---- definitions

-- none of the n numbers from k on is in the set
unfoldable pub clear : List ℕ → (k n : ℕ) → Bool
clear ws k zero = true
clear ws k (suc n) = not (marked ws k) && clear ws (k + 1) n

-- every member is below the bound
unfoldable pub within : List ℕ → ℕ → Bool
within ws bound = clear ws bound (64 * length ws - bound)

-- the same as a statement
abbrev pub Below : ℕ → List ℕ → Type 0
Below bound ws = (i : ℕ) → marked ws i ≡ true → i < bound
