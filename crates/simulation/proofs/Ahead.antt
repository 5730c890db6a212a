-- What follows from the definitions of the same name in specs/.
-- Assumes nothing.
use Rattle.std.specs.Prelude.{ℕ, refl}
use Rattle.std.proofs.Common.{subst, arith}
use Rattle.traces.specs.Realm.{Realm}
use Rattle.traces.specs.RuleSets.{Reading}
use Rattle.kerberos.specs.Log.{Event}
use Rattle.realm.specs.declared.input.Step.{Step}
use Rattle.realm.specs.Opening.{header}
use Rattle.realm.specs.Tables.{Tables}
use Rattle.decisions.proofs.Promises as decisions
use Rattle.effects.specs.Call.{called}
use Rattle.effects.proofs.Promises.{step_refused}
use Rattle.simulation.proofs.Back.{meets, brings, stands}
use Rattle.simulation.specs.Engine.{Follows}
use Rattle.simulation.proofs.Exact.{own}
use Rattle.simulation.specs.Ahead.{Exact}

module _ {R : Realm} (t : Tables) (ρ : Reading Event) (f : Follows R t ρ) (r m a b k ts ta : ℕ) where
  by_tables : Exact t ρ f r m a b k ts ta (header t.realm)
  unfolding called
  by_tables p =
      let g = own t ρ f in
      let s = stands t ρ f.together g p.opened in
      let d = decisions.ahead_exact t f.together r m k ts ta (meets s refl) (rw s.is (brings t ρ f.together g p.delivers))
      (omega (arith, g.clock_is, p.ticket_lives)) (omega (arith, g.clock_is, p.authenticator_lives)) in
      let step : Step = record { step = 5; run = r; a = 0; b = 0; m = m; t = 0 } in (
        λ e. let h = d.0 ((step_refused t step).0 e) in omega (arith, g.clock_is, h),
        λ h. (step_refused t step).1 (d.1 (omega (arith, g.clock_is, h))),
      )

  pub ahead_exact : Exact t ρ f r m a b k ts ta R
  ahead_exact = subst (Exact t ρ f r m a b k ts ta) f.header_is by_tables
