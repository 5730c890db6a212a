-- "A refusal is its number alone. State, wire, cache and terms stay unchanged", of every call.
-- Assumes nothing.
use Rattle.std.specs.Prelude.{ℕ, zero, suc, ◌-◌, ◌≡◌, true, ◌↔◌, Result, Ok, Err}
use Rattle.std.proofs.Math.Path.{refl, ap, ap₂}
use Rattle.std.proofs.Common.{sym, ◌∙◌, arith}
use mathlib.Core.List.{List}
use Rattle.terms.specs.Add.{add_of}
use Rattle.terms.proofs.Add.{add_elim}
use Rattle.terms.proofs.Choice.{no_true}
use Rattle.terms.specs.Outcome.{TermOutcome, number}
use Rattle.words.specs.Word.{packed}
use Rattle.exchange.specs.declared.call.Accepted.TheVariants.{Old, New}
use Rattle.exchange.specs.declared.call.Call.{Call}
use Rattle.exchange.specs.declared.call.Call.TheVariants as calls
use Rattle.exchange.specs.Calls.{Answer, accepts}
use Rattle.realm.specs.declared.input.Step.{Step}
use Rattle.realm.specs.Tables.{Tables, tables}
use Rattle.decisions.specs.Decision.{decision, Verdict}
use Rattle.effects.specs.Apply.{applied}
use Rattle.effects.specs.Call.{numbered, with_count, by_verdict, stepped, called}

-- what accepts is no refusal
pub never : {A : Type 0} (a : Answer) {k : ℕ} → accepts a ≡ true → a ≡ Err k → A
never a t e = no_true (sym (ap accepts e) ∙ t)

-- a refusal has one number
pub same_refusal : {A : Type 0} {j k : ℕ} → ◌≡◌ {A = Result A ℕ} (Err j) (Err k) → j ≡ k
same_refusal e = cc

-- a table that has not grown tells old, one with a term more new;
pub same_old : (i count : ℕ) → numbered (number i) (count - count) ≡ Ok (Old i)
same_old i count = let none : count - count ≡ 0 = omega arith in rw none

pub more_new : (i count : ℕ) → numbered (number i) (suc count - count) ≡ Ok (New i)
more_new i count = let one : suc count - count ≡ 1 = omega arith in rw one

-- both accept
pub number_accepts : (i grown : ℕ) → accepts (numbered (number i) grown) ≡ true
number_accepts i zero = refl
number_accepts i (suc grown) = refl

-- ---- TM

add_kept : (n : ℕ) (ts : List ℕ) (count w : ℕ) {k : ℕ} → let o = add_of n ts count w in numbered o.answer (o.count - count) ≡ Err k → (o.count ≡ count) × (o.table ≡ ts)
add_kept n ts count w {k} =
    add_elim (λ (o : TermOutcome). numbered o.answer (o.count - count) ≡ Err k → (o.count ≡ count) × (o.table ≡ ts)) n ts count w (λ e. (refl, refl)) (λ e. (refl, refl))
    (λ _ i _ e. never _ (number_accepts i (count - count)) e) (λ _ _ _ e. never _ (number_accepts count (suc count - count)) e)

-- ---- any call

module _ (t : Tables) {k : ℕ} where
  by_verdict_lem : (v : Verdict) → (by_verdict t v).answer ≡ Err k → (by_verdict t v).tables ≡ t
  unfolding applied
  by_verdict_lem (Ok x) q = never (applied t x).answer refl q
  by_verdict_lem (Err n) q = refl

  -- a step's refusal is its decision's
  same_number : (v : Verdict) → (by_verdict t v).answer ≡ Err k → v ≡ Err k
  unfolding applied
  same_number (Ok x) q = never (applied t x).answer refl q
  same_number (Err n) q = cc

  pub step_refused : (s : Step) → ((stepped t s).answer ≡ Err k) ↔ (decision t s ≡ Err k)
  unfolding stepped
  step_refused s = (same_number (decision t s), ap (λ (v : Verdict). (by_verdict t v).answer))

  pub refused_kept : (c : Call) → (called t c).answer ≡ Err k → (called t c).tables ≡ t
  unfolding called stepped
  refused_kept (calls.Term kind l r) q =
      let s = add_kept t.realm.n t.terms t.realm.terms (packed kind l r) q in
      ap₂ (λ (count : ℕ) (ts : List ℕ). tables (with_count t.realm count) ts t.runs t.wire t.cache) s.0 s.1
  refused_kept (calls.Step step run a b m time) q = by_verdict_lem (decision t (record { step = step; run = run; a = a; b = b; m = m; t = time })) q
