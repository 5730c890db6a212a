-- What follows from the definitions of the same name in specs/.
-- Assumes nothing.
use Rattle.std.specs.Prelude.{◌≡◌, refl, Bool, true, false, not, ◌&&◌, List, ℕ, zero, suc, ◌+◌, ◌*◌, ◌-◌, ◌<◌, ◌≤◌, length}
use Rattle.std.proofs.Math.Bool.{and-eq-true_iff}
use Rattle.std.proofs.Math.Decide.{ℕ_discrete, dec_lt}
use Rattle.std.proofs.Common.{ap, arith}
use Rattle.std.specs.List.{list_all, range_with_len}
use Rattle.std.proofs.lemmas.Bool.{not-true}
use Rattle.marks.specs.Marks.{marked}
use Rattle.marks.proofs.Marks.{marked_past}
use Rattle.marks.specs.Within.{clear, within, Below}

-- ---- what the test says

clear_is : (ws : List ℕ) (k n : ℕ) → clear ws k n ≡ true → (i : ℕ) → k ≤ i → i < k + n → marked ws i ≡ false
unfolding clear
clear_is ws k zero e i ge lt = absurd (omega arith)
clear_is ws k (suc n) e i ge lt =
    let b = (and-eq-true_iff (not (marked ws k)) (clear ws (k + 1) n)).0 e in
    by_eq (not-true (marked ws k) b.0) (λ h. clear_is ws (k + 1) n b.1 i h (omega arith)) (ℕ_discrete i k)
  where
    by_eq : marked ws k ≡ false → (k + 1 ≤ i → marked ws i ≡ false) → Dec (i ≡ k) → marked ws i ≡ false
    by_eq here later (yes q) = rw q here
    by_eq here later (no ne) = later (omega arith)

pub within_is : (ws : List ℕ) (bound : ℕ) → within ws bound ≡ true → Below bound ws
unfolding within
within_is ws bound e i m = by_lt (dec_lt i bound)
  where
    no_mark : marked ws i ≡ false → ⊥
    no_mark q = let z : ◌≡◌ {A = ℕ} 0 1 = cc in omega arith

    by_width : Dec (i < 64 * length ws) → bound ≤ i → ⊥
    by_width (yes lt) ge = no_mark (clear_is ws bound (64 * length ws - bound) e i ge (omega arith))
    by_width (no past) ge = no_mark (marked_past ws i (omega arith))

    by_lt : Dec (i < bound) → i < bound
    by_lt (yes lt) = lt
    by_lt (no ge) = absurd (by_width (dec_lt i (64 * length ws)) (omega arith))

is_clear : (ws : List ℕ) (bound : ℕ) → Below bound ws → (k n : ℕ) → bound ≤ k → clear ws k n ≡ true
unfolding clear
is_clear ws bound all k zero ge = refl
is_clear ws bound all k (suc n) ge = by_mark (marked ws k) refl (is_clear ws bound all (k + 1) n (omega arith))
  where
    by_mark : (b : Bool) → marked ws k ≡ b → clear ws (k + 1) n ≡ true → not b && clear ws (k + 1) n ≡ true
    by_mark true m e = absurd (omega (arith, all k m))
    by_mark false m e = e

pub is_within : (ws : List ℕ) (bound : ℕ) → Below bound ws → within ws bound ≡ true
unfolding within
is_within ws bound all = is_clear ws bound all bound (64 * length ws - bound) (omega arith)

-- ---- the test as the code runs it

pub clear_all : (ws : List ℕ) (k n : ℕ) → clear ws k n ≡ list_all (λ i. not (marked ws i)) (range_with_len k n)
unfolding clear
clear_all ws k zero = refl
clear_all ws k (suc n) = ap (λ b. not (marked ws k) && b) (clear_all ws (k + 1) n)
