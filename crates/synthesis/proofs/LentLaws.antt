-- What follows from the definitions of the same name in specs/.
-- Assumes nothing.
use Rattle.std.specs.Prelude.{◌≡◌, Result, Ok, Err, ◌↔◌, Bool, ◌&&◌, cond, List, ℕ, ◌<◌, ◌^◌, ltb, length, get_or}
use Rattle.std.proofs.Math.Path.{refl, sym}
use Rattle.std.proofs.Common.{ap, ◌∙◌, arith}
use Rattle.std.proofs.Math.Bool.{true, false, and-eq-true_iff}
use borrow.Author.Tests.{eqb-true, eq-eqb, ne_eqb, ltb-true, ltb-false, lt-ltb, le-ltb}
use Rattle.std.proofs.Math.Dec.{eqb}
use Rattle.std.proofs.Math.Seq.{paste}
use Rattle.marks.specs.Marks.{marked}
use Rattle.marks.proofs.Parts.{stored_whole}
use Rattle.marks.specs.Sets.{set_of}
use Rattle.marks.specs.Within.{within, Below}
use Rattle.marks.proofs.Within.{within_is, is_within}
use Rattle.terms.specs.Choice.{Decides}
use Rattle.terms.proofs.Choice.{proved, refuted, same_answer}
use Rattle.terms.specs.Valid.{Valid, holds}
use Rattle.terms.proofs.Valid.{holds_valid, valid_holds}
use Rattle.deduction.specs.Known.{Derivable}
use Rattle.synthesis.proofs.AllLaws.{derivable_set}
use Rattle.synthesis.specs.Test.{derivable_of}
use Rattle.synthesis.proofs.Test.{test_decides}
use Rattle.synthesis.specs.Lent.{tables_hold, can_derive, derived_of, Applies, bad_tables, absent, derivable, underivable}

-- ---- what the check says

module _ (n : ℕ) (ts : List ℕ) (count : ℕ) (ws : List ℕ) where
  pub hold_are : tables_hold n ts count ws ≡ true → Valid n ts count × (length ws ≡ 8) × Below count ws
  unfolding tables_hold
  hold_are e =
      let a = (and-eq-true_iff (holds n ts count) (eqb (length ws) 8 && within ws count)).0 e in
      let b = (and-eq-true_iff (eqb (length ws) 8) (within ws count)).0 a.1 in
      (holds_valid n ts count a.0, eqb-true (length ws) 8 b.0, within_is ws count b.1)

  pub are_held : Valid n ts count → length ws ≡ 8 → Below count ws → tables_hold n ts count ws ≡ true
  unfolding tables_hold
  are_held v e b = rw (valid_holds v, eq-eqb (length ws) 8 e, is_within ws count b)

-- ---- the set, by the way out

module _ (n flags : ℕ) (ts : List ℕ) (count : ℕ) (ws out : List ℕ) where
  pub not_held : tables_hold n ts count ws ≡ false → (10, out) ≡ derived_of n flags ts count ws out
  unfolding derived_of
  not_held e = rw e

  module _ (held : tables_hold n ts count ws ≡ true) where
    pub other_words : (length out ≡ 8 → ⊥) → (10, out) ≡ derived_of n flags ts count ws out
    unfolding derived_of
    other_words ne = rw (held, ne_eqb (length out) 8 ne)

    pub derived_all : length out ≡ 8 → derived_of n flags ts count ws out ≡ (0, set_of 8 (derivable_of flags ts count ws) count)
    unfolding derived_of
    derived_all e = rw (held, eq-eqb (length out) 8 e)

    -- where the set s was written over the words
    pub derived : (s : List ℕ) {x : List ℕ} → length out ≡ 8 → length s ≡ 8 → s ≡ set_of 8 (derivable_of flags ts count ws) count → x ≡ paste out 0 s 8
        → (0, x) ≡ derived_of n flags ts count ws out
    derived s e f is wrote =
        ap (λ (y : List ℕ). (0, y)) (wrote ∙ stored_whole 0 out s (omega arith) f refl e ∙ is) ∙ sym (derived_all e)

-- ---- what the set says

-- which was chosen, where only the first answers 0
pub cond_answered : (b : Bool) (x y : ℕ × List ℕ) → (y.0 ≡ 0 → ⊥) → (cond b x y).0 ≡ 0 → (b ≡ true) × (x.0 ≡ 0)
cond_answered true x y f e = (refl, e)
cond_answered false x y f e = absurd (f e)

module _ (n flags : ℕ) (ts : List ℕ) (count : ℕ) (ws out : List ℕ) (given : (derived_of n flags ts count ws out).0 ≡ 0) where
  given_held : (tables_hold n ts count ws ≡ true) × (length out ≡ 8)
  unfolding derived_of
  given_held =
      let a = (cond_answered (tables_hold n ts count ws && eqb (length out) 8) _ (10, out) (λ e. omega arith) given).0 in
      let b = (and-eq-true_iff (tables_hold n ts count ws) (eqb (length out) 8)).0 a in
      (b.0, eqb-true (length out) 8 b.1)

  pub derived_exact : ((j : ℕ) → get_or ws j 0 < 2 ^ 64) → (i : ℕ) → (marked (derived_of n flags ts count ws out).1 i ≡ true) ↔ ((i < count) × Derivable n flags ts count ws i)
  derived_exact fit i =
      let h = hold_are n ts count ws given_held.0 in
      let same = ap (λ (x : ℕ × List ℕ). marked x.1 i) (derived_all n flags ts count ws out given_held.0 given_held.1) in
      let exact = derivable_set flags h.0 (record { len = h.1; fit = fit }) i in
      (λ e. exact.0 (sym same ∙ e), λ p. same ∙ exact.1 p)

-- ---- the answer is the one that applies

module _ {n flags : ℕ} {ts : List ℕ} {count : ℕ} {ws : List ℕ} (fit : (j : ℕ) → get_or ws j 0 < 2 ^ 64) {t : ℕ} where
  decides : tables_hold n ts count ws ≡ true → t < count → Decides (derivable_of flags ts count ws t) (Derivable n flags ts count ws t)
  decides e lt =
      let h = hold_are n ts count ws e in
      test_decides flags h.0 (record { len = h.1; fit = fit }) t lt

  by_tests : (h l d : Bool) → tables_hold n ts count ws ≡ h → ltb t count ≡ l → derivable_of flags ts count ws t ≡ d
      → Applies n flags ts count ws t (cond h (cond l (Ok d) (Err 6)) (Err 10))
  by_tests false l d e _ _ = bad_tables e
  by_tests true false d e l _ = absent e (ltb-false t count l)
  by_tests true true true e l q = let lt = ltb-true t count l in derivable e lt ((decides e lt).yes q)
  by_tests true true false e l q = let lt = ltb-true t count l in underivable e lt ((decides e lt).no q)

  pub answer_applies : Applies n flags ts count ws t (can_derive n flags ts count ws t)
  unfolding can_derive
  answer_applies = by_tests (tables_hold n ts count ws) (ltb t count) (derivable_of flags ts count ws t) refl refl refl

  pub applies_answer : {r : Result Bool ℕ} → Applies n flags ts count ws t r → can_derive n flags ts count ws t ≡ r
  unfolding can_derive
  applies_answer (bad_tables e) = rw e
  applies_answer (absent e le) = rw (e, le-ltb t count le)
  applies_answer (derivable e lt d) = rw (e, lt-ltb t count lt, sym (same_answer true _ (proved d) (decides e lt)))
  applies_answer (underivable e lt f) = rw (e, lt-ltb t count lt, sym (same_answer false _ (refuted f) (decides e lt)))
