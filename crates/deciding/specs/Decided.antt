-- What a decision hands on to the writing: an effect that the tables can hold, with a plan of its messages whose terms fit.
-- Assumes nothing.
use Rattle.std.specs.Prelude.{List, ℕ, ◌+◌, ◌≤◌, Result, Ok, Err}
use Rattle.refusals.specs.declared.Refusal.{Refusal}
use Rattle.refusals.specs.Numbers.{number}
use Rattle.sending.specs.declared.Prepared.{Prepared}
use Rattle.sending.specs.Send.{PlanFor}
use Rattle.realm.specs.Tables.{Tables}
use Rattle.decisions.specs.declared.Effect.{Effect}
use Rattle.decisions.specs.Decision.{Verdict}
use Rattle.decisions.specs.Effects.{messages_of}
use Rattle.decisions.specs.Laws.Fits.{EffectFits}
use Rattle.deciding.specs.declared.decide.Decision.{Decision}

pub record Writable (t : Tables) (x : Effect) (words : List ℕ) (r : Prepared) : Type 0 where
  pub fits : EffectFits t x
  pub plan : PlanFor t.terms t.realm.terms (messages_of t.terms x.sends) words r
  pub room : t.realm.terms + r.count ≤ 512

-- the effect, or the number of the refusal
abbrev pub verdict_of : Result Decision Refusal → Verdict
verdict_of (Ok d) = Ok d.effect
verdict_of (Err r) = Err (number r)

-- a step that is refused has nothing to write
abbrev pub WritableBy : Tables → Result Decision Refusal → (words : List ℕ) → Type 0
WritableBy t (Ok d) words = Writable t d.effect words d.prepared
WritableBy t (Err r) words = Unit {0}
