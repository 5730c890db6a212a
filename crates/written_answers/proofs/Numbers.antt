-- Which number a call's refusal has: that of its fields, where they have one, and else one from 11 on.
-- Assumes nothing.
use Rattle.std.specs.Prelude.{◌≡◌, refl, ◌⊎◌, Bool, true, ◌&&◌, List, [], ◌∷◌, ℕ, zero, suc, ◌≤◌, leb, eqb, Option, Some, None, Err}
use Rattle.std.proofs.Common.{sym, ◌∙◌, inl, inr, arith, leb-true, ne_eqb}
use Rattle.std.proofs.Math.Bool.{and-eq-true_iff}
use Rattle.std.proofs.Math.Decide.{ℕ_discrete}
use Rattle.std.proofs.lemmas.Bool.{eqb-false}
use Rattle.words.specs.Word.{packed}
use Rattle.terms.specs.Add.{add_by, add_of}
use Rattle.terms.proofs.Choice.{cond_elim}
use Rattle.terms.specs.Outcome as terms
use Rattle.terms.specs.Rules.{refusal_of}
use Rattle.terms.specs.Table.{find_of}
use Rattle.exchange.specs.declared.call.Call.{Call}
use Rattle.exchange.specs.declared.call.Call.TheVariants as calls
use Rattle.traces.specs.Lists.{◌∈◌, here, there}
use Rattle.realm.specs.declared.input.Step.{Step}
use Rattle.realm.specs.Input.{input_refusal}
use Rattle.realm.specs.Tables.{Tables}
use Rattle.decisions.specs.Decision.{decision}
use Rattle.decisions.proofs.Promises.{fields_refuse, state_refusals}
use Rattle.decisions.specs.Refusals.{refusals_of}
use Rattle.effects.specs.Apply.{refuse}
use Rattle.effects.specs.Call.{numbered, stepped, called}
use Rattle.effects.proofs.Kept.{never, same_refusal, number_accepts}
use Rattle.effects.proofs.Promises.{step_refused}
use Rattle.raw_records.specs.Apart.{fields_refusal}

-- the number of a refusal, and that of the fields
abbrev pub ByFields : (of_fields number : ℕ) → Type 0
ByFields of_fields number = ((number ≡ of_fields) × (of_fields ≡ 0 → ⊥)) ⊎ (11 ≤ number)

-- ---- TM: behind its fields only 20 is left

by_search : (ts : List ℕ) (count w : ℕ) (f : Option ℕ) (grown : ℕ) {k : ℕ} → numbered (add_by ts count w f).answer grown ≡ Err k → 11 ≤ k
by_search ts count w (Some i) grown e = never _ (number_accepts i grown) e
by_search ts count w None grown {k} e =
    cond_elim (λ (o : terms.TermOutcome). numbered o.answer grown ≡ Err k → 11 ≤ k) (eqb count 512) (terms.refuse 20 count ts) (terms.accept count (suc count) _)
    (λ _ q. let is = same_refusal q in omega arith) (λ _ q. never _ (number_accepts count grown) q) e

term_number : (n : ℕ) (ts : List ℕ) (count w grown : ℕ) {k : ℕ} → numbered (add_of n ts count w).answer grown ≡ Err k → ByFields (refusal_of n ts count w) k
unfolding add_of
term_number n ts count w grown {k} =
    cond_elim (λ (o : terms.TermOutcome). numbered o.answer grown ≡ Err k → ByFields (refusal_of n ts count w) k) (eqb (refusal_of n ts count w) 0)
    (add_by ts count w (find_of ts count w)) (terms.refuse (refusal_of n ts count w) count ts) (λ _ e. inr (by_search ts count w (find_of ts count w) grown e))
    (λ q e. inl (sym (same_refusal e), eqb-false (refusal_of n ts count w) 0 q))

-- ---- ST: behind its fields are the refusals of the state

abbrev late : List ℕ → Bool
late [] = true
late (k ∷ ks) = leb 11 k && late ks

of_late : {k : ℕ} (ks : List ℕ) → late ks ≡ true → k ∈ ks → 11 ≤ k
of_late [] e x'' = elim x'' [ ]
of_late (k ∷ ks) e here = leb-true 11 k ((and-eq-true_iff (leb 11 k) (late ks)).0 e).0
of_late (j ∷ ks) e (there i) = of_late ks ((and-eq-true_iff (leb 11 j) (late ks)).0 e).1 i

all_late : (step : ℕ) → late (20 ∷ refusals_of step) ≡ true
all_late zero = refl
all_late (suc zero) = refl
all_late (suc (suc zero)) = refl
all_late (suc (suc (suc zero))) = refl
all_late (suc (suc (suc (suc zero)))) = refl
all_late (suc (suc (suc (suc (suc zero))))) = refl
all_late (suc (suc (suc (suc (suc (suc zero)))))) = refl
all_late (suc (suc (suc (suc (suc (suc (suc zero))))))) = refl
all_late (suc (suc (suc (suc (suc (suc (suc (suc zero)))))))) = refl
all_late (suc (suc (suc (suc (suc (suc (suc (suc (suc zero))))))))) = refl
all_late (suc (suc (suc (suc (suc (suc (suc (suc (suc (suc zero)))))))))) = refl
all_late (suc (suc (suc (suc (suc (suc (suc (suc (suc (suc (suc step))))))))))) = refl

step_number : (t : Tables) (s : Step) {k : ℕ} → (stepped t s).answer ≡ Err k → ByFields (input_refusal t.realm s) k
step_number t s {k} e = on (ℕ_discrete (input_refusal t.realm s) 0)
  where
    d : decision t s ≡ Err k
    d = (step_refused t s).0 e

    on : Dec (input_refusal t.realm s ≡ 0) → ByFields (input_refusal t.realm s) k
    on (yes z) = inr (of_late (20 ∷ refusals_of s.step) (all_late s.step) (state_refusals t s z d))
    on (no n) = inl (same_refusal (sym d ∙ fields_refuse t s n), n)

-- ---- any call

pub call_number : (t : Tables) (c : Call) {k : ℕ} → (called t c).answer ≡ Err k → ByFields (fields_refusal t.realm t.terms c) k
unfolding called
call_number t (calls.Term kind l r) e = term_number t.realm.n t.terms t.realm.terms (packed kind l r) _ e
call_number t (calls.Step step run a b m time) e = step_number t _ e

pub fields_told : (t : Tables) (c : Call) → (fields_refusal t.realm t.terms c ≡ 0 → ⊥) → called t c ≡ refuse t (fields_refusal t.realm t.terms c)
unfolding called stepped add_of
fields_told t (calls.Term kind l r) n = rw (ne_eqb (refusal_of t.realm.n t.terms t.realm.terms (packed kind l r)) 0 n)
fields_told t (calls.Step step run a b m time) n = rw (fields_refuse t _ n)
