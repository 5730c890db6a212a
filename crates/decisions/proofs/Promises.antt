-- What a step comes to, before anything is written. `Effects` has what each row of the step table writes, `Decision` the whole of it:
-- the paper's two tables of refusals, in their order, and the step table. Below: which refusals a step can have, when it has 15, and
-- that it is taken exactly where it has met what its row asks for.
-- Assumes nothing.
use Rattle.std.specs.Prelude.{ℕ, ◌∷◌, ◌≡◌, ◌↔◌, Ok, Err}
use Rattle.std.proofs.Common.{subst}
use Rattle.terms.specs.Message.{Message}
use Rattle.traces.specs.Lists.{◌∈◌}
use Rattle.realm.specs.declared.input.Step.{Step}
use Rattle.realm.specs.Input.{input_refusal}
use Rattle.realm.specs.Tables.{Tables, Together}
use Rattle.realm.specs.Fields.{call_of}
use Rattle.decisions.specs.declared.Effect.{Effect}
use Rattle.decisions.specs.Decision.{decided, decision}
use Rattle.decisions.proofs.Laws.Exact.{took_decided}
use Rattle.decisions.specs.Laws.Fits.{EffectFits}
use Rattle.decisions.proofs.Laws.Fits.{took_fits}
use Rattle.decisions.proofs.Laws.Refusals.{asked_for, Tells, state_tells, tells}
use Rattle.decisions.specs.Laws.Took.{Brings, TookAs}
use Rattle.decisions.specs.Laws.Underivable.{Reached}
use Rattle.decisions.proofs.Laws.Underivable.{told, told_back}
use Rattle.decisions.proofs.Laws.Steps as steps
use Rattle.decisions.specs.Refusals.{refusals_of, all_of}
-- ---- laws passed on
-- "remember then 18 or 19 as in step 5": a delivery that none of 4 to 17 bars, nor 22, is refused with the number that `remember` of b,
-- K and Ta answers, and taken where it answers none
pub use Rattle.decisions.proofs.Laws.Exact.{remembers, delivered}
-- "22 for such a Ta, after 17 and before 18": a delivery that none of 4 to 17 bars has it exactly where its Ta is above clock + La
pub use Rattle.decisions.proofs.Laws.Exact.{ahead_exact}
-- the fields of a step are looked at first
pub use Rattle.decisions.proofs.Laws.Refusals.{fields_refuse}

-- a step has the refusals that the tables name for it, 4 to 6 and 20, and no other
pub step_refusals : (t : Tables) (s : Step) {k : ℕ} → decision t s ≡ Err k → k ∈ all_of s.step
step_refusals t s e = (subst (Tells (all_of s.step) (asked_for t s)) e (tells t s)).0

-- behind its fields it has those of the last column and 20
pub state_refusals : (t : Tables) (s : Step) {k : ℕ} → input_refusal t.realm s ≡ 0 → decision t s ≡ Err k → k ∈ 20 ∷ refusals_of s.step
state_refusals t s z e = (subst (Tells (20 ∷ refusals_of s.step) (asked_for t s)) e (state_tells t s z)).0

-- "15 | the intruder cannot build m | 3 to 6, 10": given exactly where the step can have it, he cannot, and nothing before it applies
pub underivable_exact : (t : Tables) → Together t → (s : Step)
    → (decision t s ≡ Err 15) ↔ ((15 ∈ refusals_of s.step) × ((x : Message) → ¬ (Brings t s.m x)) × Reached (decision t s))
underivable_exact t w s = (told t w s, λ p. told_back t w s p.0 p.1 p.2)

-- Tables that hold together, and a step that is taken but for 20:
module _ (t : Tables) (s : Step) (w : Together t) {x : Effect} (d : decided t s ≡ Ok x) where
  -- it has met what its row of the step table asks for, and is an event of the exchange;
  pub taken_as : TookAs t (call_of s) x
  taken_as = steps.took t w s d

  -- its row, its entry and its messages are such as the tables can hold.
  pub taken_fits : EffectFits t x
  taken_fits = took_fits t w taken_as.took

-- A step is taken, but for 20, exactly where it has met what its row of the step table asks for.
pub taken_exact : (t : Tables) → Together t → (s : Step) {x : Effect} → (decided t s ≡ Ok x) ↔ TookAs t (call_of s) x
taken_exact t w s = (steps.took t w s, λ k. took_decided t w s k.took)
