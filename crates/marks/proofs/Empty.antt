-- The empty set: words of 0.
-- Assumes nothing.
use Rattle.std.specs.Prelude.{◌≡◌, refl, false, ℕ, zero, suc, ◌/◌, ◌%◌, get_or, replicate}
use Rattle.std.proofs.Common.{sym, ◌∙◌, arith, ne_eqb, pow_pos}
use Rattle.std.proofs.lemmas.Nat.{ones-le}
use Rattle.std.proofs.lemmas.List.{length-replicate}
use Rattle.std.proofs.lemmas.List.Folds.{sum_by-replicate}
use Rattle.std.specs.Int.Count.{ones}
use Rattle.marks.specs.Bits.{bit}
use Rattle.marks.proofs.Bits.{bit_past}
use Rattle.marks.specs.Marks.{Words, mark, marked, size}
use Rattle.marks.proofs.Size.{ones_size}

-- a list of zeros has no other number
pub zeros : (n i : ℕ) → ◌≡◌ {A = ℕ} (get_or (replicate n 0) i 0) 0
zeros zero i = refl
zeros (suc n) zero = refl
zeros (suc n) (suc i) = zeros n i

pub empty_words : (k : ℕ) → Words k (replicate k 0)
empty_words k = record { len = length-replicate k 0; fit = λ j. rw (zeros k j) (pow_pos 64) }

pub empty_marked : (k i : ℕ) → marked (replicate k 0) i ≡ false
unfolding marked mark
empty_marked k i =
    rw (zeros k (i / 64))
    (ne_eqb (bit 0 (i % 64)) 1 (λ e. let z : bit 0 (i % 64) ≡ 0 = bit_past 0 0 (i % 64) (pow_pos 0) (omega arith) in omega arith))

pub empty_size : (k : ℕ) → size (replicate k 0) ≡ 0
empty_size k =
    let none : ones 0 ≡ 0 = omega (arith, ones-le 0 0 (omega arith)) in
    sym (ones_size (empty_words k)) ∙ sum_by-replicate ones k 0 ∙ rw none (omega arith)
