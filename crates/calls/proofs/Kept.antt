-- What the public call leaves as it was and what it answers, from what the call by value does.
-- Assumes nothing.
use Rattle.std.specs.Prelude.{ℕ, ◌+◌, ◌<◌, ◌≡◌, refl, true, ◌↔◌, eqb, length, Err}
use Rattle.std.proofs.Common.{sym, ap, subst, ◌∙◌}
use Rattle.std.proofs.Math.Option.{some}
use Rattle.terms.proofs.Choice.{cond_elim}
use Rattle.terms.specs.Message.{session, Message, key}
use Rattle.exchange.specs.declared.call.Call.{Call}
use Rattle.exchange.specs.declared.call.Call.TheVariants.{Term, Step}
use Rattle.exchange.specs.Calls.{Answer, accepts, Sized}
use Rattle.traces.specs.Realm.{Realm}
use Rattle.traces.specs.RuleSets.{Reading}
use Rattle.traces.specs.Terms.{message_from}
use Rattle.kerberos.specs.Log.{Event, Act, clock}
use Rattle.exchange.specs.Forms.{form_of}
use Rattle.kerberos.specs.Rules.{Takes}
use Rattle.realm.specs.Opening.{header}
use Rattle.realm.specs.Check.{together}
use Rattle.realm.specs.Tables.{Tables, Together}
use Rattle.effects.specs.Apply.{Outcome, refuse}
use Rattle.effects.specs.Call.{called, checked}
use Rattle.effects.proofs.Promises as effects
use Rattle.simulation.specs.Ahead.{Passes17}
use Rattle.simulation.specs.Engine.{Follows}
use Rattle.simulation.specs.Exact.{Takable}
use Rattle.simulation.proofs.Promises as simulation
use Rattle.simulation.specs.Told.{step_told, term_told, GrowsBy}
use Rattle.simulation.specs.Underivable.{Barred}
use Rattle.simulation.specs.Unread.{Alike}
use Rattle.simulation.specs.Values.{values_of}
use Rattle.calls.specs.Lent.{lent_call}
use Rattle.calls.proofs.Same.{lent_called}

abbrev Keeps : Tables → (k : ℕ) → Outcome → Type 0
Keeps t k o = o.answer ≡ Err k → o.tables ≡ t

pub refused_kept : (t : Tables) (c : Call) {k : ℕ} → (lent_call t c).answer ≡ Err k → (lent_call t c).tables ≡ t
unfolding lent_call checked
refused_kept t c {k} =
    cond_elim (Keeps t k) (eqb (length t.cache) 16) (checked t c) (refuse t 10)
    (λ _. cond_elim (Keeps t k) (together t) (called t c) (refuse t 10) (λ _. effects.refused_kept t c) (λ _ e. refl)) (λ _ e. refl)

module _ (t : Tables) (c : Call) (w : Together t) where
  same_answer : (lent_call t c).answer ≡ (called t c).answer
  same_answer = ap (λ (o : Outcome). o.answer) (lent_called t c w)

  same_tables : (lent_call t c).tables ≡ (called t c).tables
  same_tables = ap (λ (o : Outcome). o.tables) (lent_called t c w)

  pub never_10 : ¬ ((lent_call t c).answer ≡ Err 10)
  never_10 e = effects.never_10 t c (sym same_answer ∙ e)

pub query_kept : (t : Tables) → Together t → (r a b m now : ℕ) → (lent_call t (Step 10 r a b m now)).tables ≡ t
query_kept t w r a b m now = same_tables t (Step 10 r a b m now) w ∙ simulation.query_kept t w r a b m now

pub leak_kept : (t : Tables) → Together t → (r a b m now : ℕ) → (values_of (header t.realm) t).wire (key (session r)) → (lent_call t (Step 9 r a b m now)).tables ≡ t
leak_kept t w r a b m now k = same_tables t (Step 9 r a b m now) w ∙ simulation.leak_kept t w r a b m now k

-- ---- what is accepted

module _ {R : Realm} {t : Tables} {ρ : Reading Event} (f : Follows R t ρ) where
  pub accepted_exact : (c : Call) → Sized c → (accepts (lent_call t c).answer ≡ true) ↔ Takable R ρ c
  accepted_exact c size =
      subst (λ (a : Answer). (accepts a ≡ true) ↔ Takable R ρ c) (sym (same_answer t c f.together)) (simulation.accepted_exact R t ρ f c size)

  pub step_answer : (step r a b m now : ℕ) {act : Act} → Takes (form_of R.rules) R ρ.terms ρ.log (Step step r a b m now) act
      → (lent_call t (Step step r a b m now)).answer ≡ step_told ρ.terms act
  step_answer step r a b m now k = same_answer t (Step step r a b m now) f.together ∙ simulation.step_answer R t ρ f step r a b m now k

  pub term_answer : (kind x y : ℕ) → Sized (Term kind x y) → {act : Act} {m : Message} → Takes (form_of R.rules) R ρ.terms ρ.log (Term kind x y) act
      → message_from ρ.terms kind x y ≡ some m → (lent_call t (Term kind x y)).answer ≡ term_told 0 ρ.terms m
  term_answer kind x y size k made = same_answer t (Term kind x y) f.together ∙ simulation.term_answer R t ρ f kind x y size k made

  pub terms_grow : (c : Call) → Sized c → GrowsBy R ρ c (lent_call t c).answer
  terms_grow c size = subst (GrowsBy R ρ c) (sym (same_answer t c f.together)) (simulation.terms_grow R t ρ f c size)

  pub underivable_exact : (step r a b m now : ℕ) → let answer = (lent_call t (Step step r a b m now)).answer in (answer ≡ Err 15) ↔ Barred R ρ step m answer
  underivable_exact step r a b m now =
      subst (λ (x : Answer). (x ≡ Err 15) ↔ Barred R ρ step m x) (sym (same_answer t (Step step r a b m now) f.together))
      (simulation.underivable_exact R t ρ f step r a b m now)

  pub ahead_exact : (r m a b k ts ta : ℕ) → Passes17 R ρ r m a b k ts ta
      → ((lent_call t (Step 5 r 0 0 m 0)).answer ≡ Err 22) ↔ (clock ρ.log + R.auth_life < ta)
  ahead_exact r m a b k ts ta p =
      subst (λ (x : Answer). (x ≡ Err 22) ↔ (clock ρ.log + R.auth_life < ta)) (sym (same_answer t (Step 5 r 0 0 m 0) f.together))
      (simulation.ahead_exact R t ρ f r m a b k ts ta p)

-- ---- what is not read

module _ (t u : Tables) (t_holds : Together t) (u_holds : Together u) (same : Alike t u) (c : Call) where
  pub unread_answer : (lent_call t c).answer ≡ (lent_call u c).answer
  unread_answer = same_answer t c t_holds ∙ simulation.unread_answers t u t_holds u_holds same c ∙ sym (same_answer u c u_holds)

  pub unread_tables : Alike (lent_call t c).tables (lent_call u c).tables
  unread_tables =
      subst (λ (x : Tables). Alike x (lent_call u c).tables) (sym (same_tables t c t_holds))
      (subst (Alike (called t c).tables) (sym (same_tables u c u_holds)) (simulation.unread_tables t u t_holds u_holds same c))
