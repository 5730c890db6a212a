-- The answers of the public calls on a lent term table: 10 first, for one that does not hold together.
-- Assumes nothing.
use Rattle.std.specs.Prelude.{cond, Option, Result, Ok, Err, List, ℕ}
use Rattle.terms.specs.Add.{add_of}
use Rattle.terms.specs.Outcome.{TermOutcome, refuse}
use Rattle.terms.specs.Table.{find_of}
use Rattle.terms.specs.Valid.{holds}

-- the number of the term w, or that it is not there
unfoldable pub lookup_of : (n : ℕ) (ts : List ℕ) (count w : ℕ) → Result (Option ℕ) ℕ
lookup_of n ts count w = cond (holds n ts count) (Ok (find_of ts count w)) (Err 10)

-- adding the term w
unfoldable pub add_term_of : (n : ℕ) (ts : List ℕ) (count w : ℕ) → TermOutcome
add_term_of n ts count w = cond (holds n ts count) (add_of n ts count w) (refuse 10 count ts)
