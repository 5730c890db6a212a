-- A lent term table that holds together: the terms' part of refusal 10 (document 01: "a table lent with other than its
-- full number of places, a count over its limit, a term that breaks the term rules, 5 or 6 or repeats").
-- `Valid` says what it is; `holds` is the same as a test that computes, which the promises of the public calls cite.
-- Assumes nothing.
use Rattle.std.specs.Prelude.{◌≡◌, Bool, true, false, ◌&&◌, Option, Some, None, List, ℕ, ◌<◌, ◌≤◌, leb, eqb, length, get_or}
use Rattle.terms.specs.AllOf.{each}
use Rattle.terms.specs.Rules.{refusal_of}
use Rattle.terms.specs.Table.{find_of}

-- ---- definitions

-- the first `count` words keep the rules, "No term stands twice"
pub record Terms (n : ℕ) (ts : List ℕ) (count : ℕ) : Type 0 where
  pub fine : (i : ℕ) → i < count → refusal_of n ts i (get_or ts i 0) ≡ 0
  pub once : (i j : ℕ) → i < count → j < count → get_or ts i 0 ≡ get_or ts j 0 → i ≡ j

-- and they stand in a table of 512 places
pub record Valid (n : ℕ) (ts : List ℕ) (count : ℕ) : Type 0 where
  pub size : length ts ≡ 512
  pub room : count ≤ 512
  pub terms : Terms n ts count

-- term i keeps the rules and is none of the terms before it
abbrev pub is_nothing : Option ℕ → Bool
is_nothing (Some i) = false
is_nothing None = true

unfoldable pub stands : (n : ℕ) (ts : List ℕ) (i : ℕ) → Bool
stands n ts i = eqb (refusal_of n ts i (get_or ts i 0)) 0 && is_nothing (find_of ts i (get_or ts i 0))

unfoldable pub holds : (n : ℕ) (ts : List ℕ) (count : ℕ) → Bool
holds n ts count = eqb (length ts) 512 && (leb count 512 && each (stands n ts) count)
