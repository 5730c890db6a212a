-- A set of small numbers, packed into words of 64 bits: number i is bit i % 64 of word i / 64.
-- A set of k words holds numbers below 64 · k. All definitions and laws are over any number of words.
-- Clients use the laws; only this crate unfolds the definitions.
-- Assumes nothing.
use Rattle.std.specs.Prelude.{◌≡◌, Bool, List, ℕ, zero, suc, ◌+◌, ◌*◌, ◌/◌, ◌%◌, ◌^◌, ◌<◌, length, get_or, set}
use Rattle.std.proofs.Math.Dec.{eqb}
use Rattle.marks.specs.Bits.{bit, set_bit}

-- bit j of a word is set
unfoldable pub is_set : ℕ → ℕ → Bool
is_set w j = eqb (bit w j) 1

-- 1 where i is in the set, else 0
unfoldable pub mark : List ℕ → ℕ → ℕ
mark ws i = bit (get_or ws (i / 64) 0) (i % 64)

-- i is in the set
unfoldable pub marked : List ℕ → ℕ → Bool
marked ws i = eqb (mark ws i) 1

-- the set with i in it
unfoldable pub with_mark : List ℕ → ℕ → List ℕ
with_mark ws i = set ws (i / 64) (set_bit (get_or ws (i / 64) 0) (i % 64))

-- the sum of f over the numbers below n
unfoldable pub sum : (ℕ → ℕ) → ℕ → ℕ
sum f zero = 0
sum f (suc n) = sum f n + f n

-- how many numbers are in the set
unfoldable pub size : List ℕ → ℕ
size ws = sum (mark ws) (64 * length ws)

-- k words of 64 bits
pub record Words (k : ℕ) (ws : List ℕ) : Type 0 where
  pub len : length ws ≡ k
  pub fit : (j : ℕ) → get_or ws j 0 < 2 ^ 64
