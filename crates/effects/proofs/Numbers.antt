-- No call answers 10: that number is the check's alone, which a library caller meets whose tables do not hold together.
-- Assumes nothing.
use Rattle.std.specs.Prelude.{ℕ, zero, suc, Bool, true, false, not, ◌&&◌, cond, List, [], ◌∷◌, ◌≡◌, refl, ltb, eqb, Err}
use Rattle.std.proofs.Math.Bool.{and-eq-true_iff}
use Rattle.std.proofs.lemmas.Bool.{eqb-false}
use Rattle.std.proofs.Common.{eq-eqb}
use Rattle.terms.specs.Add.{add_of}
use Rattle.terms.proofs.Add.{add_elim}
use Rattle.terms.proofs.Choice.{no_true}
use Rattle.terms.specs.Outcome as terms
use Rattle.terms.specs.Rules.{spare, fields_ok, refusal_of}
use Rattle.words.specs.Word.{kind_of, right_of, term_of, packed}
use Rattle.exchange.specs.declared.call.Call.{Call}
use Rattle.exchange.specs.declared.call.Call.TheVariants as calls
use Rattle.traces.specs.Lists.{◌∈◌, here, there}
use Rattle.realm.specs.declared.input.Step.{Step}
use Rattle.realm.specs.Tables.{Tables}
use Rattle.decisions.proofs.Promises.{step_refusals}
use Rattle.decisions.specs.Refusals.{all_of}
use Rattle.effects.specs.Call.{numbered, called}
use Rattle.effects.proofs.Kept.{never, same_refusal, number_accepts, step_refused}

-- ---- TM

-- whether an answer is 10
abbrev ten : terms.TermAnswer → Bool
ten (terms.number i) = false
ten (terms.refused k) = eqb k 10

told : (a : terms.TermAnswer) (grown : ℕ) → ten a ≡ false → ¬ (numbered a grown ≡ Err 10)
told (terms.number i) grown e q = never (numbered (terms.number i) grown) (number_accepts i grown) q
told (terms.refused k) grown e q = eqb-false k 10 e (same_refusal q)

-- 4, 5 or 6
of_word : (n : ℕ) (ts : List ℕ) (at w : ℕ) → eqb (refusal_of n ts at w) 10 ≡ false
unfolding refusal_of
of_word n ts at w = by (ltb 6 (kind_of w)) (eqb (spare (term_of w) (right_of w)) 0) (fields_ok n ts at (term_of w))
  where
    by : (a b d : Bool) → eqb (cond a 4 (cond b (cond d 0 6) 5)) 10 ≡ false
    by true b d = refl
    by false false d = refl
    by false true true = refl
    by false true false = refl

of_term : (n : ℕ) (ts : List ℕ) (count w : ℕ) → ten (add_of n ts count w).answer ≡ false
of_term n ts count w = add_elim (λ (o : terms.TermOutcome). ten o.answer ≡ false) n ts count w (of_word n ts count w) refl (λ _ _ _. refl) (λ _ _ _. refl)

-- ---- ST

-- the number k is none of these
abbrev others : ℕ → List ℕ → Bool
others k [] = true
others k (n ∷ ns) = not (eqb k n) && others k ns

absent : (k : ℕ) (ns : List ℕ) → others k ns ≡ true → ¬ (k ∈ ns)
absent k [] e x'' = elim x'' [ ]
absent k (n ∷ ns) e here = no_true (rw (eq-eqb k k refl) at e)
absent k (n ∷ ns) e (there i) = absent k ns ((and-eq-true_iff (not (eqb k n)) (others k ns)).0 e).1 i

-- the last column of the table of refusals has no 10
no_ten : (step : ℕ) → others 10 (all_of step) ≡ true
no_ten zero = refl
no_ten (suc zero) = refl
no_ten (suc (suc zero)) = refl
no_ten (suc (suc (suc zero))) = refl
no_ten (suc (suc (suc (suc zero)))) = refl
no_ten (suc (suc (suc (suc (suc zero))))) = refl
no_ten (suc (suc (suc (suc (suc (suc zero)))))) = refl
no_ten (suc (suc (suc (suc (suc (suc (suc zero))))))) = refl
no_ten (suc (suc (suc (suc (suc (suc (suc (suc zero)))))))) = refl
no_ten (suc (suc (suc (suc (suc (suc (suc (suc (suc zero))))))))) = refl
no_ten (suc (suc (suc (suc (suc (suc (suc (suc (suc (suc zero)))))))))) = refl
no_ten (suc (suc (suc (suc (suc (suc (suc (suc (suc (suc (suc step))))))))))) = refl

pub never_10 : (t : Tables) (c : Call) → ¬ ((called t c).answer ≡ Err 10)
unfolding called
never_10 t (calls.Term kind l r) q = told (add_of t.realm.n t.terms t.realm.terms (packed kind l r)).answer _ (of_term t.realm.n t.terms t.realm.terms (packed kind l r)) q
never_10 t (calls.Step step run a b m time) q =
    let s : Step = record { step = step; run = run; a = a; b = b; m = m; t = time } in
    absent 10 (all_of step) (no_ten step) (step_refusals t s ((step_refused t s).0 q))
