-- 15 is given exactly where the step can have it, nothing before it applies, and m is no message that the intruder can deliver, in the
-- reading of the calls.
-- Assumes nothing.
use Rattle.std.specs.Prelude.{ℕ, ◌<◌, ◌≡◌, Err}
use Rattle.terms.specs.Message.{Message}
use Rattle.exchange.specs.Calls.{Answer}
use Rattle.traces.specs.Conditions.{Delivers}
use Rattle.traces.specs.Lists.{◌∈◌}
use Rattle.traces.specs.Realm.{Realm}
use Rattle.traces.specs.RuleSets.{Reading}
use Rattle.kerberos.specs.Log.{Event}
use Rattle.decisions.specs.Refusals.{refusals_of}

-- what 15 says of a step with this answer: the table of refusals has 15 for it, the intruder cannot deliver m, and no refusal before
-- 15 was given
pub record Barred (R : Realm) (ρ : Reading Event) (step m : ℕ) (answer : Answer) : Type 0 where
  pub can_have : 15 ∈ refusals_of step
  pub underivable : (x : Message) → ¬ (Delivers R ρ.terms ρ.log m x)
  pub reached : (k : ℕ) → k < 15 → ¬ (answer ≡ Err k)
