-- What the crate promises beside the contracts: a verdict is `None` exactly if the two texts are the same. By the contract of
-- `judging::judge` these are the listing that is defined for the walk file (`walkfile`, Listing) and the stored one; by that of
-- `rewriting::back::rewrite` the bytes that are defined as written (`writer`, Write) and the file's own.
-- Assumes nothing.
use Rattle.std.specs.Prelude.{Option, Some, None, Bool, true, false, cond, List, [], ◌∷◌, ◌≡◌, refl, ℕ, eqb}
use Rattle.std.proofs.Common.{arith, eqb-true, eq-eqb}
use Rattle.comparison.specs.Compare.{line_after, difference}

-- A text is the same as itself,
pub itself : (line : ℕ) (xs : List ℕ) → difference line xs xs ≡ None
unfolding difference
itself line [] = refl
itself line (x ∷ xs) = rw (eq-eqb x x refl) (itself (line_after line x) xs)

by_first : (b : Bool) (line : ℕ) (v : Option ℕ) → cond b v (Some line) ≡ None → (b ≡ true) × (v ≡ None)
by_first true line v e = (refl, e)
by_first false line v e = let z : ◌≡◌ {A = ℕ} 0 1 = cc in absurd (omega arith)

-- and as no other.
pub no_other : (line : ℕ) (xs ys : List ℕ) → difference line xs ys ≡ None → xs ≡ ys
unfolding difference
no_other line [] [] e = refl
no_other line [] (y ∷ ys) e = let z : ◌≡◌ {A = ℕ} 0 1 = cc in absurd (omega arith)
no_other line (x ∷ xs) [] e = let z : ◌≡◌ {A = ℕ} 0 1 = cc in absurd (omega arith)
no_other line (x ∷ xs) (y ∷ ys) e =
    let f = by_first (eqb x y) line (difference (line_after line x) xs ys) e in
    let h : x ≡ y = eqb-true x y f.0 in
    let t : xs ≡ ys = no_other (line_after line x) xs ys f.1 in
    cc
