-- A step that is taken: what the definitions of the crates below decide and write is what the rules of the exchange take and its
-- reading holds.
-- Assumes nothing.
use Rattle.std.specs.Prelude.{ℕ, List, ◌∷◌, ◌≡◌, Ok}
use Rattle.std.proofs.Common.{sym}
use Rattle.std.proofs.Math.Path.{subst}
use Rattle.messages.specs.Listed.{add_all}
use Rattle.sending.specs.Send.{sent, send_of}
use Rattle.exchange.specs.Calls.{Sized}
use Rattle.traces.specs.Engines.{Agrees}
use Rattle.traces.specs.Realm.{Realm}
use Rattle.traces.specs.RuleSets.{Reading}
use Rattle.kerberos.specs.Log.{Event, Act}
use Rattle.exchange.specs.Forms.{form_of}
use Rattle.kerberos.specs.Reading.{set_of}
use Rattle.kerberos.specs.Rules as rules
use Rattle.realm.specs.declared.input.Step.{Step}
use Rattle.realm.specs.Fields.{call_of}
use Rattle.realm.specs.Opening.{header}
use Rattle.realm.specs.Tables.{Tables, Together}
use Rattle.decisions.specs.declared.Effect.{Effect}
use Rattle.decisions.specs.Decision.{decided}
use Rattle.decisions.specs.Effects.{messages_of}
use Rattle.decisions.proofs.Laws.Fits.{took_clock}
use Rattle.decisions.proofs.Promises.{taken_as, taken_fits}
use Rattle.simulation.proofs.Follows.{next_tables, effect_together, effect_agrees, effect_fits}
use Rattle.simulation.proofs.Mirrors.{took_mirrors}
use Rattle.simulation.proofs.Rules.{taken}
use Rattle.simulation.specs.Values.{values_of}

-- Tables that hold together, a step that is taken, and what came of sending its messages:
module _ {t : Tables} (w : Together t) (s : Step) {x : Effect} (d : decided t s ≡ Ok x) {count : ℕ} {ts ws : List ℕ}
    (o : send_of t.terms t.wire t.realm.terms (messages_of t.terms x.sends) ≡ sent count ts ws) where
  -- the tables hold together again,
  pub step_together : Sized (call_of s) → Together (next_tables t x count ts ws)
  step_together size = effect_together w x (taken_fits t s w d) o (took_clock t w (taken_as t s w d).took size)

  -- what the step did, and the messages that it sent
  pub step_act : Act
  step_act = ((taken_as t s w d).event, messages_of t.terms x.sends)

  -- and where they agreed with a reading, the rules take the step for that act,
  module _ {R : Realm} (is : header t.realm ≡ R) (ρ : Reading Event) (a : Agrees (set_of R) R (values_of R t) ρ) where
    pub step_taken : rules.Takes (form_of R.rules) R ρ.terms ρ.log (call_of s) step_act
    unfolding step_act
    step_taken =
        subst (λ (R : Realm). rules.Takes (form_of R.rules) R ρ.terms ρ.log (call_of s) step_act) is
        (taken t ρ w (subst (λ (R : Realm). Agrees (set_of R) R (values_of R t) ρ) (sym is) a) (taken_as t s w d).took
        (effect_fits w x (taken_fits t s w d) o ρ a.terms_are))

    -- and the tables agree with the reading that has it in front.
    pub step_agrees : Agrees (set_of R) R (values_of R (next_tables t x count ts ws)) (record { log = step_act ∷ ρ.log; terms = add_all step_act.1 ρ.terms })
    unfolding step_act
    step_agrees = effect_agrees w x (taken_fits t s w d) o is ρ a (taken_as t s w d).event (took_mirrors (taken_as t s w d).took)
