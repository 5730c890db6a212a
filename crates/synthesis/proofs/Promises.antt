-- What the crate promises beside the contracts of its functions. Test has the definition of the test as a function, Lent that of the
-- answers of `can_derive` and of what `derive_terms` gives, Knowledge what is kept from question to question; the other files are about
-- how it finds out.
-- Assumes nothing.
use Rattle.std.specs.Prelude.{◌↔◌, Result, ◌≡◌, Bool, true, List, ℕ, ◌<◌, ◌≤◌, ◌^◌, get_or}
use Rattle.std.proofs.Common.{subst}
use Rattle.marks.specs.Marks.{Words, marked}
use Rattle.terms.specs.Choice.{Decides}
use Rattle.terms.proofs.Choice.{same_answer}
use Rattle.terms.specs.Rules.{Agree}
use Rattle.terms.specs.Valid.{Valid}
use Rattle.deduction.specs.Known.{Derivable}
use Rattle.synthesis.proofs.Growth.{knows_later}
use Rattle.synthesis.specs.Knowledge.{Kept}
use Rattle.synthesis.specs.declared.knowledge.Knowledge.{Knowledge}
use Rattle.synthesis.proofs.LentLaws as lent
use Rattle.synthesis.specs.Lent.{can_derive, derived_of, Applies}
use Rattle.synthesis.proofs.LentLaws.{answer_applies, applies_answer}
use Rattle.synthesis.specs.Test.{derivable_of}
use Rattle.synthesis.proofs.Test.{test_decides}

-- The test as a function, by which a caller can state what it refuses, answers exactly whether the message is in the least set,
pub function_exact : (flags : ℕ) {n : ℕ} {ts : List ℕ} {count : ℕ} (v : Valid n ts count) {ws : List ℕ} → Words 8 ws → (t : ℕ) → t < count
    → Decides (derivable_of flags ts count ws t) (Derivable n flags ts count ws t)
function_exact flags v w t h = test_decides flags v w t h

-- and every other test that does has its answers.
pub function_unique : (flags : ℕ) {n : ℕ} {ts : List ℕ} {count : ℕ} (v : Valid n ts count) {ws : List ℕ} → Words 8 ws → (t : ℕ) → t < count
    → (r : Bool) → Decides r (Derivable n flags ts count ws t) → r ≡ derivable_of flags ts count ws t
function_unique flags v w t h r d = same_answer r _ d (test_decides flags v w t h)

-- `can_derive` gives each answer exactly where it applies.
pub answer_exact : {n flags : ℕ} {ts : List ℕ} {count : ℕ} {ws : List ℕ} → ((j : ℕ) → get_or ws j 0 < 2 ^ 64) → {t : ℕ} {r : Result Bool ℕ}
    → (can_derive n flags ts count ws t ≡ r) ↔ Applies n flags ts count ws t r
answer_exact fit = (λ e. subst (Applies _ _ _ _ _ _) e (answer_applies fit), applies_answer fit)

-- Where `derive_terms` answers 0, its set has a term exactly where its message can be derived.
pub derived_exact : (n flags : ℕ) (ts : List ℕ) (count : ℕ) (ws out : List ℕ) → (derived_of n flags ts count ws out).0 ≡ 0
    → ((j : ℕ) → get_or ws j 0 < 2 ^ 64) → (i : ℕ) → (marked (derived_of n flags ts count ws out).1 i ≡ true) ↔ ((i < count) × Derivable n flags ts count ws i)
derived_exact n flags ts count ws out given fit i = lent.derived_exact n flags ts count ws out given fit i

-- What is kept is true: a term that was found can be derived from the wire that it was found for, and one that was missed cannot.
module _ {n flags : ℕ} {ts : List ℕ} {count : ℕ} {ks : Knowledge} (known : Kept n flags ts count ks) (k : ℕ) (h : k < count) where
  pub found_derivable : marked ks.found k ≡ true → Derivable n flags ts count ks.wire k
  found_derivable m = known.found.sound k h m

  pub missed_underivable : marked ks.missed k ≡ true → ¬ (Derivable n flags ts count ks.wire k)
  missed_underivable m = known.missed k h m

-- It stays true when terms are added.
pub kept_later : {n flags : ℕ} {ts : List ℕ} {count : ℕ} → Valid n ts count → (ts' : List ℕ) (count' : ℕ) → Agree ts ts' count → count ≤ count'
    → {ks : Knowledge} → Kept n flags ts count ks → Kept n flags ts' count' ks
kept_later v ts' count' same more known = knows_later v ts' count' same more known
