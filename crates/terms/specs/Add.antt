-- Adding a term (document 01, "Terms": "No term stands twice: adding one that is present gives its number and changes
-- nothing"; refusal 20: "the new terms do not all fit"): the answer, and the table after it, every place of it.
-- Assumes nothing.
use Rattle.std.specs.Prelude.{◌≡◌, Option, Some, None, Result, Ok, Err, cond, List, ℕ, suc, ◌<◌, ◌≤◌, eqb, get_or, set}
use Rattle.refusals.specs.declared.Refusal.{Refusal}
use Rattle.refusals.specs.Numbers as refusals
use Rattle.terms.specs.declared.table.Added.{Added}
use Rattle.terms.specs.declared.table.Added.TheVariants.{Old, New}
use Rattle.terms.specs.Outcome.{TermAnswer, number, refused, TermOutcome, accept, refuse}
use Rattle.terms.specs.Rules.{refusal_of, Agree}
use Rattle.terms.specs.Table.{find_of}
use Rattle.terms.specs.Valid.{Terms, Valid}

-- ---- definitions

-- what the code's answer comes to: the term was there, is new, or was refused
abbrev pub add_outcome : Result Added Refusal → (count : ℕ) → List ℕ → TermOutcome
add_outcome (Ok (Old i)) count ts = accept i count ts
add_outcome (Ok (New i)) count ts = accept i (suc count) ts
add_outcome (Err r) count ts = refuse (refusals.number r) count ts

-- by what the search found: "adding one that is present gives its number and changes nothing"; a new one goes behind the others
abbrev pub add_by : (ts : List ℕ) (count w : ℕ) → Option ℕ → TermOutcome
add_by ts count w (Some i) = accept i count ts
add_by ts count w None = cond (eqb count 512) (refuse 20 count ts) (accept count (suc count) (set ts count w))

-- the refusals of the term rules come before 20
unfoldable pub add_of : (n : ℕ) (ts : List ℕ) (count w : ℕ) → TermOutcome
add_of n ts count w =
    cond (eqb (refusal_of n ts count w) 0) (add_by ts count w (find_of ts count w)) (refuse (refusal_of n ts count w) count ts)

-- ---- a longer table: the terms before stay, and the rules are kept

pub record Extends (n : ℕ) (ts : List ℕ) (count : ℕ) (ts' : List ℕ) (count' : ℕ) : Type 0 where
  pub terms : Terms n ts' count'
  pub more : count ≤ count'
  pub agree : Agree ts ts' count

-- ---- what holds after it

abbrev pub AddedIs : (n : ℕ) (ts : List ℕ) (count w : ℕ) → TermAnswer → ℕ → List ℕ → Type 0
AddedIs n ts count w (number i) count' ts' = (i < count') × (get_or ts' i 0 ≡ w) × Extends n ts count ts' count'
AddedIs n ts count w (refused r) count' ts' = (count' ≡ count) × (ts' ≡ ts)

-- the answer is the term's number, and the table still holds together
pub record AddsTerm (n : ℕ) (ts : List ℕ) (count w : ℕ) (o : TermOutcome) : Type 0 where
  pub is : AddedIs n ts count w o.answer o.count o.table
  pub valid : Valid n o.table o.count
