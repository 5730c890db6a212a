-- The answers of `can_derive`, and when each is given: by `Derives`, which runs no search. What `derive_terms` gives.
-- Assumes nothing.
use Rattle.std.specs.Prelude.{◌≡◌, Result, Ok, Err, Bool, ◌&&◌, cond, List, ℕ, ◌<◌, ◌≤◌, ltb, length}
use Rattle.std.proofs.Math.Bool.{true, false}
use Rattle.std.proofs.Math.Dec.{eqb}
use Rattle.marks.specs.Sets.{set_of}
use Rattle.marks.specs.Within.{within}
use Rattle.terms.specs.Valid.{holds}
use Rattle.deduction.specs.Known.{Derivable}
use Rattle.synthesis.specs.Test.{derivable_of}

-- ---- definitions

-- the term table holds together, and the wire is a set of 8 words with no "mark past the last term"
unfoldable pub tables_hold : (n : ℕ) (ts : List ℕ) (count : ℕ) (ws : List ℕ) → Bool
tables_hold n ts count ws = holds n ts count && (eqb (length ws) 8 && within ws count)

-- 10 for tables that do not hold together, 6 for a term that is not present, else whether its message can be derived
unfoldable pub can_derive : (n flags : ℕ) (ts : List ℕ) (count : ℕ) (ws : List ℕ) (t : ℕ) → Result Bool ℕ
can_derive n flags ts count ws t =
    cond (tables_hold n ts count ws)
    (cond (ltb t count) (Ok (derivable_of flags ts count ws t)) (Err 6))
    (Err 10)

-- 0 and the set of the terms that can be derived; or 10 and the words as they were, where the tables do not hold together or there are
-- other than 8 words
unfoldable pub derived_of : (n flags : ℕ) (ts : List ℕ) (count : ℕ) (ws out : List ℕ) → ℕ × List ℕ
derived_of n flags ts count ws out =
    cond (tables_hold n ts count ws && eqb (length out) 8) (0, set_of 8 (derivable_of flags ts count ws) count) (10, out)

-- where each answer applies
pub data Applies (n flags : ℕ) (ts : List ℕ) (count : ℕ) (ws : List ℕ) (t : ℕ) : Result Bool ℕ → Type 0 where
  bad_tables : tables_hold n ts count ws ≡ false → Applies n flags ts count ws t (Err 10)
  absent : tables_hold n ts count ws ≡ true → count ≤ t → Applies n flags ts count ws t (Err 6)
  derivable : tables_hold n ts count ws ≡ true → t < count → Derivable n flags ts count ws t → Applies n flags ts count ws t (Ok true)
  underivable : tables_hold n ts count ws ≡ true → t < count → ¬ (Derivable n flags ts count ws t) → Applies n flags ts count ws t (Ok false)
