-- A call is accepted exactly where the rules take it, and its answer is told by the reading. So no condition of a rule could be dropped
-- or added.
-- Assumes nothing.
use Rattle.exchange.specs.declared.call.Call.{Call}
use Rattle.traces.specs.Realm.{Realm}
use Rattle.traces.specs.RuleSets.{Reading}
use Rattle.kerberos.specs.Log.{Event, Act}
use Rattle.exchange.specs.Forms.{form_of}
use Rattle.kerberos.specs.Rules.{Takes}

-- ---- any call

-- what the rules take a call for
pub record Takable (R : Realm) (ρ : Reading Event) (c : Call) : Type 0 where
  pub act : Act
  pub takes : Takes (form_of R.rules) R ρ.terms ρ.log c act
