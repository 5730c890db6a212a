-- What follows from the definitions of the same name in specs/.
-- Assumes nothing.
use Rattle.std.specs.Prelude.{◌≡◌, refl, length}
use Rattle.std.proofs.Math.Path.{sym, ap₂}
use Rattle.std.proofs.Common.{ap, ◌∙◌, arith, length-append}
use mathlib.Core.List.{List, [], ◌∷◌, ◌++◌}
use Rattle.std.proofs.Math.Option.{some}
use Prim.Native.Nat.{ℕ, zero, suc, ◌<◌, ◌≤◌}
use Rattle.std.proofs.Math.Decide.{ℕ_discrete}
use Rattle.std.proofs.Math.ListN.{get_elem?, set}
use Rattle.std.proofs.lemmas.List.{set_at, set-append_left}
use Rattle.exchange.specs.declared.run.Row.{Row}
use Rattle.rows.specs.Row.{Fits}
use Rattle.rows.specs.Runs.{Full, run_at, set_run}
use Rattle.rows.proofs.Runs.{SameRows, run_as, run_same, run_other, same_past}
use Rattle.rows.specs.Rows.{rows_of}

-- ---- laws

pub rows_length : (runs : List ℕ) (count : ℕ) → length (rows_of runs count) ≡ count
unfolding rows_of
rows_length runs zero = refl
rows_length runs (suc m) = length-append (rows_of runs m) (run_at runs m ∷ []) ∙ omega (arith, rows_length runs m)

-- the element where a list is joined, and those before
seam : (t : List Row) (y : Row) (i : ℕ) → length t ≡ i → get_elem? (t ++ (y ∷ [])) i ≡ some y
seam [] y zero e = refl
seam [] y (suc i) e = absurd (omega arith)
seam (x ∷ t) y zero e = absurd (omega arith)
seam (x ∷ t) y (suc i) e = seam t y i (omega arith)

before : (t : List Row) (y : Row) (i : ℕ) → i < length t → get_elem? (t ++ (y ∷ [])) i ≡ get_elem? t i
before [] y i h = absurd (omega arith)
before (x ∷ t) y zero h = refl
before (x ∷ t) y (suc i) h = before t y i (omega arith)

pub rows_at : (runs : List ℕ) (count r : ℕ) → r < count → get_elem? (rows_of runs count) r ≡ some (run_at runs r)
unfolding rows_of
rows_at runs zero r h = absurd (omega arith)
rows_at runs (suc m) r h = by_eq (ℕ_discrete r m) (rows_at runs m r)
  where
    by_eq : Dec (r ≡ m) → (r < m → get_elem? (rows_of runs m) r ≡ some (run_at runs r)) → get_elem? (rows_of runs m ++ (run_at runs m ∷ [])) r ≡ some (run_at runs r)
    by_eq (yes e) f = seam (rows_of runs m) (run_at runs m) r (rows_length runs m ∙ sym e) ∙ ap (λ (q : ℕ). some (run_at runs q)) (sym e)
    by_eq (no n) f = before (rows_of runs m) (run_at runs m) r (omega (arith, rows_length runs m)) ∙ f (omega arith)

pub rows_same : (runs runs' : List ℕ) (count : ℕ) → SameRows runs runs' count → rows_of runs count ≡ rows_of runs' count
unfolding rows_of
rows_same runs runs' zero g = refl
rows_same runs runs' (suc m) g =
    ap₂ (λ (t : List Row) (x : Row). t ++ (x ∷ [])) (rows_same runs runs' m (λ q h. g q (omega arith))) (run_as runs runs' m (g m (omega arith)))

module _ (runs : List ℕ) (size : Full runs) (r : ℕ) (l : r < 64) (x : Row) where
  -- a row past the count does not show
  pub rows_past : (count : ℕ) → count ≤ r → rows_of (set_run runs r x) count ≡ rows_of runs count
  rows_past count h = rows_same (set_run runs r x) runs count (same_past runs size r l x count h)

  module _ (f : Fits x) where
    pub rows_open : rows_of (set_run runs r x) (suc r) ≡ rows_of runs r ++ (x ∷ [])
    unfolding rows_of
    rows_open = ap₂ (λ (t : List Row) (y : Row). t ++ (y ∷ [])) (rows_past r (omega arith)) (run_same runs size r l x f)

    pub rows_set : (count : ℕ) → r < count → rows_of (set_run runs r x) count ≡ set (rows_of runs count) r x
    unfolding rows_of
    rows_set zero h = absurd (omega arith)
    rows_set (suc m) h = by_eq (ℕ_discrete m r) (rows_set m)
      where
        by_eq : Dec (m ≡ r) → (r < m → rows_of (set_run runs r x) m ≡ set (rows_of runs m) r x)
            → rows_of (set_run runs r x) m ++ (run_at (set_run runs r x) m ∷ []) ≡ set (rows_of runs m ++ (run_at runs m ∷ [])) r x
        by_eq (yes e) f = rw e (rows_open ∙ sym (set_at (rows_of runs r) (run_at runs r) [] x r (rows_length runs r)))
        by_eq (no n) f =
            ap₂ (λ (t : List Row) (y : Row). t ++ (y ∷ [])) (f (omega arith)) (run_other runs size r l x m n)
            ∙ sym (set-append_left (rows_of runs m) (run_at runs m ∷ []) r x (omega (arith, rows_length runs m)))
