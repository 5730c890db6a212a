-- The pass over the table: after it what is found is the set of all terms that can be derived.
-- Assumes nothing.
use Rattle.std.specs.Prelude.{◌≡◌, true, List, ℕ, ◌<◌}
use Rattle.marks.specs.Marks.{marked}
use Rattle.deduction.specs.Known.{Derivable}
use Rattle.synthesis.specs.Knowledge.{Knows}
use Rattle.synthesis.specs.declared.knowledge.Knowledge.{Knowledge}

-- it is true of the wire ws, and of the terms below t all that can be derived are found
pub record FoundTo (n flags : ℕ) (ts : List ℕ) (count : ℕ) (ws : List ℕ) (t : ℕ) (ks : Knowledge) : Type 0 where
  pub knows : Knows n flags ts count ws ks
  pub wire : ks.wire ≡ ws
  pub all : (k : ℕ) → k < t → Derivable n flags ts count ws k → marked ks.found k ≡ true
