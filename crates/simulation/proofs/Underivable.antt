-- What follows from the definitions of the same name in specs/.
-- Assumes nothing.
use Rattle.std.specs.Prelude.{ℕ, ◌≡◌, ◌↔◌, Err}
use Rattle.std.proofs.Common.{sym, subst}
use Rattle.exchange.specs.declared.call.Call.TheVariants as calls
use Rattle.traces.specs.Conditions.{Delivers}
use Rattle.traces.specs.Realm.{Realm}
use Rattle.traces.specs.RuleSets.{Reading}
use Rattle.kerberos.specs.Log.{Event}
use Rattle.realm.specs.declared.input.Step.{Step}
use Rattle.realm.specs.Tables.{Tables}
use Rattle.decisions.proofs.Promises as decisions
use Rattle.effects.specs.Call.{called}
use Rattle.effects.proofs.Promises.{step_refused}
use Rattle.simulation.proofs.Back.{brings}
use Rattle.simulation.specs.Engine.{Follows}
use Rattle.simulation.proofs.Exact.{own}
use Rattle.simulation.proofs.Rules.{delivers}
use Rattle.simulation.specs.Underivable.{Barred}

module _ {R : Realm} (t : Tables) (ρ : Reading Event) (f : Follows R t ρ) (step r a b m now : ℕ) where
  abbrev s : Step
  s = record { step = step; run = r; a = a; b = b; m = m; t = now }

  pub underivable_exact : let answer = (called t (calls.Step step r a b m now)).answer in (answer ≡ Err 15) ↔ Barred R ρ step m answer
  unfolding called
  underivable_exact =
      let d = decisions.underivable_exact t f.together s in (
        λ e. let p = d.0 ((step_refused t s).0 e) in
            record {
              can_have = p.0;
              underivable = λ x y. p.1 x (brings t ρ f.together (own t ρ f) (subst (λ (R : Realm). Delivers R ρ.terms ρ.log m x) (sym f.header_is) y));
              reached = λ k h q. p.2 k h ((step_refused t s).0 q);
            },
        λ p. (step_refused t s).1 (d.1 (
          p.can_have,
          λ x y. p.underivable x (subst (λ (R : Realm). Delivers R ρ.terms ρ.log m x) f.header_is (delivers t ρ f.together (own t ρ f) y)),
          λ k h q. p.reached k h ((step_refused t s).1 q),
        )),
      )
