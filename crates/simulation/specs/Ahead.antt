-- 22 of step 5, in the reading of the calls: a delivery that nothing before it bars has it exactly where its Ta is above clock + La.
-- Assumes nothing.
use Rattle.std.specs.Prelude.{ℕ, ◌+◌, ◌<◌, ◌≡◌, ◌↔◌, Err}
use Rattle.std.proofs.Math.Option.{some}
use Rattle.terms.specs.Message.{pair}
use Rattle.exchange.specs.declared.call.Call.TheVariants as calls
use Rattle.traces.specs.Conditions.{Delivers}
use Rattle.traces.specs.Realm.{Realm}
use Rattle.traces.specs.RuleSets.{Reading}
use Rattle.kerberos.specs.Log.{Event, clock, run, responder_opened}
use Rattle.kerberos.specs.Messages.{ticket, authenticator}
use Rattle.kerberos.specs.Rules.{TicketLives, AuthenticatorLives}
use Rattle.realm.specs.Tables.{Tables}
use Rattle.effects.specs.Call.{called}
use Rattle.simulation.specs.Engine.{Follows}

-- step 5 of run r with m is barred by none of 4 to 17: the run, the form, the intruder and the two lives
pub record Passes17 (R : Realm) (ρ : Reading Event) (r m a b k ts ta : ℕ) : Type 0 where
  pub opened : run ρ.log r ≡ some (responder_opened a b)
  pub delivers : Delivers R ρ.terms ρ.log m (pair (ticket k a ts b) (authenticator a ta k))
  pub ticket_lives : TicketLives R ρ.log ts
  pub authenticator_lives : AuthenticatorLives R ρ.log ta

module _ {R : Realm} (t : Tables) (ρ : Reading Event) (f : Follows R t ρ) (r m a b k ts ta : ℕ) where
  abbrev pub Exact : Realm → Type 0
  Exact R = Passes17 R ρ r m a b k ts ta → ((called t (calls.Step 5 r 0 0 m 0)).answer ≡ Err 22) ↔ (clock ρ.log + R.auth_life < ta)
