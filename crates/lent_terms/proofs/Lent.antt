-- What follows from the definitions of the same name in specs/.
-- Assumes nothing.
use Rattle.std.specs.Prelude.{◌≡◌, refl, ◌⊎◌, Bool, true, false, not, Option, Some, None, Result, Ok, Err, List, ℕ, ◌<◌, ◌≤◌, get_or, length}
use Rattle.std.specs.Option.{is_some}
use Rattle.std.specs.Result.{is_ok}
use Rattle.std.proofs.Common.{sym, ◌∙◌, arith, inl, inr, eq-eqb, le-leb}
use Rattle.refusals.specs.declared.Refusal.{Refusal}
use Rattle.refusals.specs.Numbers.{number_of}
use Rattle.refusals.proofs.Numbers.{not_0}
use Rattle.terms.proofs.Choice.{is_false, no_true}
use Rattle.terms.specs.AllOf.{each}
use Rattle.terms.specs.Rules.{refusal_of}
use Rattle.terms.specs.Add.{add_of}
use Rattle.terms.specs.Outcome.{TermOutcome, refuse}
use Rattle.terms.specs.Table.{find_of}
use Rattle.terms.specs.Valid.{is_nothing, stands, holds}
use Rattle.terms.proofs.Valid.{stands_is, holds_valid}
use Rattle.lent_terms.specs.Lent.{lookup_of, add_term_of}

-- ---- the check

module _ (n : ℕ) (ts : List ℕ) (i : ℕ) (r : Result (Unit {0}) Refusal) (rules_say : number_of r ≡ refusal_of n ts i (get_or ts i 0)) where
  pub stands_not : is_ok r ≡ false → false ≡ stands n ts i
  stands_not bad = is_false (stands n ts i) (λ e. refused r bad (rules_say ∙ (stands_is n ts i e).fine))
    where
      refused : (s : Result (Unit {0}) Refusal) → is_ok s ≡ false → number_of s ≡ 0 → ⊥
      refused (Ok u) e z = no_true (sym e)
      refused (Err x) e z = not_0 x z

  pub stands_found : is_ok r ≡ true → {f : Option ℕ} → f ≡ find_of ts i (get_or ts i 0) → {none : Bool} → is_some f ≡ not none → none ≡ stands n ts i
  unfolding stands
  stands_found good {f} q {none} e = rw (← rules_say, passed r good, ← q) (by f none e)
    where
      passed : (s : Result (Unit {0}) Refusal) → is_ok s ≡ true → number_of s ≡ 0
      passed (Ok u) e = refl
      passed (Err x) e = no_true e

      by : (g : Option ℕ) (b : Bool) → is_some g ≡ not b → b ≡ is_nothing g
      by (Some k) true e = no_true (sym e)
      by (Some k) false e = refl
      by None true e = refl
      by None false e = no_true e

module _ (n : ℕ) (ts : List ℕ) (count : ℕ) where
  pub holds_by : length ts ≡ 512 → count ≤ 512 → {r : Bool} → r ≡ each (stands n ts) count → r ≡ holds n ts count
  unfolding holds
  holds_by size room e = rw (eq-eqb (length ts) 512 size, le-leb count 512 room) e

  pub holds_not : (length ts ≡ 512 × 512 < count) ⊎ (length ts ≡ 512 → ⊥) → false ≡ holds n ts count
  holds_not (inl p) = is_false (holds n ts count) (λ e. let v = holds_valid n ts count e in omega (arith, v.room))
  holds_not (inr f) = is_false (holds n ts count) (λ e. f (holds_valid n ts count e).size)

-- ---- by what the check says

module _ (n : ℕ) (ts : List ℕ) (count w : ℕ) where
  pub lookup_bad : holds n ts count ≡ false → Err 10 ≡ lookup_of n ts count w
  unfolding lookup_of
  lookup_bad e = rw e

  pub lookup_found : holds n ts count ≡ true → {f : Option ℕ} → f ≡ find_of ts count w → Ok f ≡ lookup_of n ts count w
  unfolding lookup_of
  lookup_found e f = rw (e, f)

  pub add_term_bad : holds n ts count ≡ false → refuse 10 count ts ≡ add_term_of n ts count w
  unfolding add_term_of
  add_term_bad e = rw e

  pub add_term_by : holds n ts count ≡ true → {o : TermOutcome} → o ≡ add_of n ts count w → o ≡ add_term_of n ts count w
  unfolding add_term_of
  add_term_by e p = rw e p
