-- What the intruder was found to know, kept from question to question: three packed sets. Each mark is true of `Derivable`, so
-- a look at it is an answer.
-- Assumes nothing.
use Rattle.std.specs.Prelude.{◌≡◌, Bool, true, cond, List, ℕ, ◌<◌, length, replicate}
use Rattle.marks.specs.Marks.{marked, with_mark}
use Rattle.marks.specs.Within.{Below}
use Rattle.terms.specs.Choice.{Decides}
use Rattle.deduction.specs.Known.{Derivable, Filled}
use Rattle.synthesis.specs.declared.knowledge.Knowledge.{Knowledge}

-- ---- definitions

abbrev pub as_known : (wire found missed : List ℕ) → Knowledge
as_known wire found missed = record { wire = wire; found = found; missed = missed }

-- of an empty wire nothing is known
abbrev pub nothing : Knowledge
nothing = as_known (replicate 8 0) (replicate 8 0) (replicate 8 0)

-- it is true of the wire ws: all that taking apart gives is found, what is found can be derived, and what is missed cannot
pub record Knows (n flags : ℕ) (ts : List ℕ) (count : ℕ) (ws : List ℕ) (ks : Knowledge) : Type 0 where
  pub size : (length ks.found ≡ 8) × (length ks.missed ≡ 8)
  pub found : Filled n flags ts count ws ks.found
  pub missed : (k : ℕ) → k < count → marked ks.missed k ≡ true → ¬ (Derivable n flags ts count ws k)
  pub below : Below count ws × Below count ks.found × Below count ks.missed

-- it is true of the wire that it was found for
abbrev pub Kept : (n flags : ℕ) (ts : List ℕ) (count : ℕ) (ks : Knowledge) → Type 0
Kept n flags ts count ks = Knows n flags ts count ks.wire ks

-- the answer ok on term t, noted
unfoldable pub note_of : Knowledge → ℕ → Bool → Knowledge
note_of ks t ok = cond ok (as_known ks.wire (with_mark ks.found t) ks.missed) (as_known ks.wire ks.found (with_mark ks.missed t))

-- it was found anew, for the wire ws
pub record RestartedIs (n flags : ℕ) (ts : List ℕ) (count : ℕ) (ws : List ℕ) (ks : Knowledge) : Type 0 where
  pub knows : Knows n flags ts count ws ks
  pub wire : ks.wire ≡ ws

-- the answer ok on term t, with ks before and ks' after it
pub record ComposedIs (n flags : ℕ) (ts : List ℕ) (count : ℕ) (ws : List ℕ) (t : ℕ) (ok : Bool) (ks ks' : Knowledge) : Type 0 where
  pub knows : Knows n flags ts count ws ks'
  pub wire : ks'.wire ≡ ws
  pub keeps : (k : ℕ) → marked ks.found k ≡ true → marked ks'.found k ≡ true
  pub finds : ok ≡ true → marked ks'.found t ≡ true
  pub answer : Decides ok (Derivable n flags ts count ws t)
