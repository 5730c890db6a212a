-- What follows from the definitions of the same name in specs/.
-- Assumes nothing.
use Rattle.std.specs.Prelude.{◌≡◌, ◌⊎◌, true, false, List, ℕ, ◌*◌, ◌/◌, ◌%◌, ◌^◌, ◌<◌, ◌≤◌, length, get_or, set}
use Rattle.std.proofs.Common.{sym, ◌∙◌, inl, inr, arith, length-set, pow_pos, get_or-set_same, get_or-set_other}
use Rattle.std.proofs.Math.Path.{ap}
use Rattle.std.proofs.Math.Decide.{ℕ_discrete}
use borrow.Author.Tests.{eq-eqb, ne_eqb, eqb-true, eqb-false}
use Rattle.std.proofs.Math.Dec.{eqb}
use Rattle.std.proofs.Math.ListN.{get_or-eq_default}
use Rattle.std.proofs.lemmas.List.{set-get_or}
use Rattle.std.proofs.Math.Seq.{set_out}
use Rattle.marks.specs.Bits.{bit, set_bit}
use Rattle.marks.proofs.Bits.{bit_small, bit_past, set_bit_same, set_bit_other, set_bit_idle, set_bit_fits}
use Rattle.marks.specs.Marks.{is_set, mark, marked, with_mark, Words}

-- ---- a bit that is set

pub set_is : (w j : ℕ) → is_set w j ≡ true → bit w j ≡ 1
unfolding is_set
set_is w j e = eqb-true (bit w j) 1 e

pub is_set_lem : (w j : ℕ) → bit w j ≡ 1 → is_set w j ≡ true
unfolding is_set
is_set_lem w j e = eq-eqb (bit w j) 1 e

-- ---- membership

-- no number past the words is in the set
pub marked_past : (ws : List ℕ) (i : ℕ) → 64 * length ws ≤ i → marked ws i ≡ false
unfolding marked mark
marked_past ws i h =
    let none : get_or ws (i / 64) 0 ≡ 0 = get_or-eq_default ws 0 {n = i / 64} (omega arith) in
    rw none (ne_eqb (bit 0 (i % 64)) 1 (λ e. let z : bit 0 (i % 64) ≡ 0 = bit_past 0 0 (i % 64) (pow_pos 0) (omega arith) in omega arith))

mark_same : (ws : List ℕ) (i : ℕ) → i < 64 * length ws → mark (with_mark ws i) i ≡ 1
unfolding mark with_mark
mark_same ws i h =
    ap (λ (w : ℕ). bit w (i % 64)) (get_or-set_same ws (i / 64) _ 0 (omega arith)) ∙ set_bit_same (get_or ws (i / 64) 0) (i % 64)

mark_other : (ws : List ℕ) (i k : ℕ) → i < 64 * length ws → (k ≡ i → ⊥) → mark (with_mark ws i) k ≡ mark ws k
unfolding mark with_mark
mark_other ws i k h ne = by_word (ℕ_discrete (k / 64) (i / 64))
  where
    by_word : Dec (k / 64 ≡ i / 64) → bit (get_or (set ws (i / 64) (set_bit (get_or ws (i / 64) 0) (i % 64))) (k / 64) 0) (k % 64) ≡ bit (get_or ws (k / 64) 0) (k % 64)
    by_word (yes e) =
        rw e
        (ap (λ (w : ℕ). bit w (k % 64)) (get_or-set_same ws (i / 64) _ 0 (omega arith))
        ∙ set_bit_other (get_or ws (i / 64) 0) (i % 64) (k % 64) (λ m. ne (omega arith)))
    by_word (no e) = ap (λ (w : ℕ). bit w (k % 64)) (get_or-set_other ws (i / 64) (k / 64) _ 0 e)

module _ (ws : List ℕ) (i : ℕ) (h : i < 64 * length ws) where
  pub marked_same : marked (with_mark ws i) i ≡ true
  unfolding marked
  marked_same = eq-eqb _ _ (mark_same ws i h)

  pub marked_other : (k : ℕ) → (k ≡ i → ⊥) → marked (with_mark ws i) k ≡ marked ws k
  unfolding marked
  marked_other k ne = ap (λ (b : ℕ). eqb b 1) (mark_other ws i k h ne)

  -- what was in the set stays in it, and only i is added
  pub marked_keeps : (k : ℕ) → marked ws k ≡ true → marked (with_mark ws i) k ≡ true
  marked_keeps k m = by_eq (ℕ_discrete k i)
    where
      by_eq : Dec (k ≡ i) → marked (with_mark ws i) k ≡ true
      by_eq (yes e) = rw e marked_same
      by_eq (no ne) = marked_other k ne ∙ m

  pub marked_new : (k : ℕ) → marked (with_mark ws i) k ≡ true → (k ≡ i) ⊎ (marked ws k ≡ true)
  marked_new k m = by_eq (ℕ_discrete k i)
    where
      by_eq : Dec (k ≡ i) → (k ≡ i) ⊎ (marked ws k ≡ true)
      by_eq (yes e) = inl e
      by_eq (no ne) = inr (sym (marked_other k ne) ∙ m)

-- adding what is there changes nothing
pub with_idle : (ws : List ℕ) (i : ℕ) → marked ws i ≡ true → with_mark ws i ≡ ws
unfolding with_mark marked mark
with_idle ws i e = rw (set_bit_idle (get_or ws (i / 64) 0) (i % 64) (eqb-true _ 1 e)) (set-get_or ws (i / 64) 0)

-- nor does adding a number that has no place
pub with_past : (ws : List ℕ) (i : ℕ) → 64 * length ws ≤ i → with_mark ws i ≡ ws
unfolding with_mark
with_past ws i h = set_out ws (i / 64) _ (omega arith)

pub mark_unmarked : (ws : List ℕ) (i : ℕ) → marked ws i ≡ false → bit (get_or ws (i / 64) 0) (i % 64) ≡ 0
unfolding marked mark
mark_unmarked ws i e = omega (arith, bit_small (get_or ws (i / 64) 0) (i % 64), eqb-false (bit (get_or ws (i / 64) 0) (i % 64)) 1 e)

-- ---- the words stay words

pub with_length : (ws : List ℕ) (i : ℕ) → length (with_mark ws i) ≡ length ws
unfolding with_mark
with_length ws i = length-set ws (i / 64) _

pub with_words : {k : ℕ} (ws : List ℕ) (i : ℕ) → Words k ws → i < 64 * k → Words k (with_mark ws i)
unfolding with_mark
with_words ws i w h = record { len = length-set ws (i / 64) _ ∙ w.len; fit = λ j. by_word j (ℕ_discrete j (i / 64)) }
  where
    by_word : (j : ℕ) → Dec (j ≡ i / 64) → get_or (set ws (i / 64) (set_bit (get_or ws (i / 64) 0) (i % 64))) j 0 < 2 ^ 64
    by_word j (yes e) =
        rw (e, get_or-set_same ws (i / 64) _ 0 (omega (arith, w.len))) (set_bit_fits 64 (get_or ws (i / 64) 0) (i % 64) (w.fit (i / 64)) (omega arith))
    by_word j (no ne) = rw (get_or-set_other ws (i / 64) j _ 0 ne) (w.fit j)
