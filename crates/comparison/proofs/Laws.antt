-- Laws for the proofs of the code: two texts from a place on, the totals.
-- Assumes nothing.
use Rattle.std.specs.Prelude.{Some, None, Bool, true, false, List, [], ◌∷◌, ◌≡◌, refl, ℕ, ◌+◌, ◌<◌, ◌≤◌, ◌⊎◌, length}
use Rattle.std.proofs.Common.{arith, inl, inr}
use Rattle.std.proofs.Math.Numerals.{add-one}
use borrow.Author.Tests.{eq-eqb, ne_eqb}
use Rattle.comparison.specs.declared.Totals.{Totals}
use Rattle.comparison.specs.Compare.{line_after, difference, disagreements}

-- ---- two texts from a place on

pub newline : (line byte next : ℕ) → byte ≡ 10 → next ≡ line + 1 → next ≡ line_after line byte
newline line byte next e n = rw (eq-eqb byte 10 e, ← add-one line) n

pub other_byte : (line byte next : ℕ) → (byte ≡ 10 → ⊥) → next ≡ line → next ≡ line_after line byte
other_byte line byte next e n = rw (ne_eqb byte 10 e) n

-- where one of them has ended, they are the same exactly if the other has ended too
pub both_end : (line : ℕ) (a b : List ℕ) → length a ≡ 0 → length b ≡ 0 → None ≡ difference line a b
unfolding difference
both_end line [] [] p q = refl
both_end line [] (y ∷ ys) p q = absurd (omega arith)
both_end line (x ∷ xs) b p q = absurd (omega arith)

pub one_ends : (line : ℕ) (a b : List ℕ) → (length a ≡ 0) ⊎ (length b ≡ 0) → (length a ≡ length b → ⊥) → Some line ≡ difference line a b
unfolding difference
one_ends line [] [] e n = absurd (n refl)
one_ends line [] (y ∷ ys) e n = refl
one_ends line (x ∷ xs) [] e n = refl
one_ends line (x ∷ xs) (y ∷ ys) e n = absurd (elim e [ inl p ↦ omega arith | inr q ↦ omega arith ])

module _ (line : ℕ) (x y : ℕ) (xs ys : List ℕ) where
  pub bytes_differ : (x ≡ y → ⊥) → Some line ≡ difference line (x ∷ xs) (y ∷ ys)
  unfolding difference
  bytes_differ n = rw (ne_eqb x y n)

  pub goes_on : (next : ℕ) → x ≡ y → next ≡ line_after line x → difference next xs ys ≡ difference line (x ∷ xs) (y ∷ ys)
  unfolding difference
  goes_on next e n = rw (n, eq-eqb x y e)

-- ---- the totals

-- no more than so many comparisons were made, and no more failed
pub record TotalsWithin (t : Totals) (limit : ℕ) : Type 0 where
  pub few : t.compared ≤ limit
  pub fewer : t.differ ≤ t.compared

pub within_later : (t : Totals) (limit next : ℕ) → limit < next → TotalsWithin t limit → TotalsWithin t next
within_later t limit next h w = record { few = omega (arith, w.few); fewer = w.fewer }

-- one comparison more
pub within_next : (t r : Totals) (limit next : ℕ) → limit < next → TotalsWithin t limit → (agrees : Bool)
    → (r.compared ≡ t.compared + 1) × (r.differ ≡ t.differ + disagreements agrees) → TotalsWithin r next
within_next t r limit next h w true e = record { few = omega (arith, w.few, e.0); fewer = omega (arith, w.fewer, e.0, e.1) }
within_next t r limit next h w false e = record { few = omega (arith, w.few, e.0); fewer = omega (arith, w.fewer, e.0, e.1) }
