-- What follows from the definitions of the same name in specs/.
-- Assumes nothing.
use Rattle.std.specs.Prelude.{◌≡◌, refl, ℕ, zero, suc, ◌/◌, ◌%◌, ◌^◌, ◌<◌, ◌≤◌}
use Rattle.std.proofs.Common.{sym, ap, ◌∙◌, pow-suc, one-add, arith, shr-shr, pow_mono}
use Rattle.std.proofs.Math.Nat.{div-eq_of_lt}
use Rattle.std.specs.Int.Bits.{bit_or, or_zero_r}
use Rattle.std.proofs.lemmas.Nat.{or_shr, or_mod, or_lt}
use Rattle.std.specs.Int.Count.{ones, ones_step}
use Rattle.std.proofs.Math.Pow.{pow-lt}
use Rattle.marks.specs.Bits.{bit, set_bit}

pub bit_small : (w j : ℕ) → bit w j < 2
unfolding bit
bit_small w j = omega arith

pub bit_zero : (w : ℕ) → bit w 0 ≡ w % 2
unfolding bit
bit_zero w = omega arith

pub bit_suc : (w j : ℕ) → bit w (suc j) ≡ bit (w / 2) j
unfolding bit
bit_suc w j = ap (λ (x : ℕ). x % 2) (ap (λ (x : ℕ). w / 2 ^ x) (sym (one-add j)) ∙ sym (shr-shr w 1 j))

-- a word has no bits at its width and above
pub bit_past : (k w j : ℕ) → w < 2 ^ k → k ≤ j → bit w j ≡ 0
unfolding bit
bit_past k w j hw hj = ap (λ (x : ℕ). x % 2) (div-eq_of_lt (omega (arith, pow_mono hj)))

-- ---- one step of `set_bit`: the lowest bit, and the rest

or_bit : (a : ℕ) → a < 2 → bit_or a 1 ≡ 1
or_bit zero h = refl
or_bit (suc zero) h = refl
or_bit (suc (suc a)) h = absurd (omega arith)

pub set_bit_low : (w : ℕ) → set_bit w 0 % 2 ≡ 1
unfolding set_bit
set_bit_low w = or_mod w 1 1 ∙ or_bit (w % 2) (omega arith)

pub set_bit_rest : (w : ℕ) → set_bit w 0 / 2 ≡ w / 2
unfolding set_bit
set_bit_rest w = or_shr w 1 1 ∙ or_zero_r (w / 2)

pub set_bit_suc_low : (w j : ℕ) → set_bit w (suc j) % 2 ≡ w % 2
unfolding set_bit
set_bit_suc_low w j = or_mod w (2 ^ suc j) 1 ∙ ap (bit_or (w % 2)) (omega (arith, pow-suc 2 j)) ∙ or_zero_r (w % 2)

pub set_bit_suc_rest : (w j : ℕ) → set_bit w (suc j) / 2 ≡ set_bit (w / 2) j
unfolding set_bit
set_bit_suc_rest w j = or_shr w (2 ^ suc j) 1 ∙ ap (bit_or (w / 2)) (omega (arith, pow-suc 2 j))

-- ---- what `set_bit` does

pub set_bit_same : (w j : ℕ) → bit (set_bit w j) j ≡ 1
set_bit_same w zero = bit_zero (set_bit w 0) ∙ set_bit_low w
set_bit_same w (suc j) = bit_suc (set_bit w (suc j)) j ∙ ap (λ (x : ℕ). bit x j) (set_bit_suc_rest w j) ∙ set_bit_same (w / 2) j

pub set_bit_other : (w j k : ℕ) → (k ≡ j → ⊥) → bit (set_bit w j) k ≡ bit w k
set_bit_other w zero zero ne = absurd (ne refl)
set_bit_other w zero (suc k) ne =
    bit_suc (set_bit w 0) k ∙ ap (λ (x : ℕ). bit x k) (set_bit_rest w) ∙ sym (bit_suc w k)
set_bit_other w (suc j) zero ne = bit_zero (set_bit w (suc j)) ∙ set_bit_suc_low w j ∙ sym (bit_zero w)
set_bit_other w (suc j) (suc k) ne =
    bit_suc (set_bit w (suc j)) k ∙ ap (λ (x : ℕ). bit x k) (set_bit_suc_rest w j)
    ∙ set_bit_other (w / 2) j k (λ e. ne (ap suc e)) ∙ sym (bit_suc w k)

-- one more is set, where the bit was not
pub set_bit_ones : (w j : ℕ) → bit w j ≡ 0 → ones (set_bit w j) ≡ suc (ones w)
set_bit_ones w zero h =
    let low : w % 2 ≡ 0 = sym (bit_zero w) ∙ h in
    omega (arith, ones_step (set_bit w 0), ones_step w, set_bit_low w, ap ones (set_bit_rest w))
set_bit_ones w (suc j) h =
    let rest : ones (set_bit (w / 2) j) ≡ suc (ones (w / 2)) = set_bit_ones (w / 2) j (sym (bit_suc w j) ∙ h) in
    omega (arith, ones_step (set_bit w (suc j)), ones_step w, set_bit_suc_low w j, ap ones (set_bit_suc_rest w j))

-- no change, where it was
pub set_bit_idle : (w j : ℕ) → bit w j ≡ 1 → set_bit w j ≡ w
set_bit_idle w zero h =
    let low : w % 2 ≡ 1 = sym (bit_zero w) ∙ h in
    omega (arith, set_bit_low w, set_bit_rest w)
set_bit_idle w (suc j) h =
    let rest : set_bit (w / 2) j ≡ w / 2 = set_bit_idle (w / 2) j (sym (bit_suc w j) ∙ h) in
    omega (arith, set_bit_suc_low w j, set_bit_suc_rest w j)

pub set_bit_fits : (k w j : ℕ) → w < 2 ^ k → j < k → set_bit w j < 2 ^ k
unfolding set_bit
set_bit_fits k w j hw hj = or_lt k w (2 ^ j) hw (pow-lt hj)
