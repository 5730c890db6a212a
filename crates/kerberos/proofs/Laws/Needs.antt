-- The constant table says what the rules ask for: a run that a taken step names meets the step's need, and a row that meets a
-- need is that of a run with its role and stage.
-- Assumes nothing.
use Rattle.std.specs.Prelude.{ℕ, ◌≡◌, refl, true, List}
use Rattle.std.proofs.Common.{sym, ◌∙◌}
use Rattle.std.proofs.Math.Option.{some}
use Rattle.terms.specs.Message.{Message}
use Rattle.exchange.specs.declared.call.Call.TheVariants.{Step}
use Rattle.exchange.specs.declared.run.Role.{Role}
use Rattle.exchange.specs.declared.run.Role.TheVariants.{Initiator, Responder, Server}
use Rattle.exchange.specs.declared.run.Stage.{Stage}
use Rattle.exchange.specs.declared.run.Stage.TheVariants.{Opened, Authenticated, Done}
use Rattle.exchange.specs.Needs.{need_table, need_of, is_at, meets}
use Rattle.exchange.proofs.Laws.Needs.{is_at_same}
use Rattle.traces.specs.Realm.{Realm}
use Rattle.exchange.specs.declared.form.Form.{Form}
use Rattle.kerberos.specs.Log.{Act, Log, Run, initiator_opened, initiator_authenticated, initiator_done, responder_opened, responder_done, server_done, run, stored}
use Rattle.kerberos.specs.Rules.{Takes, takes1, takes2, takes3, takes4, takes5, takes6, takes7, takes8, takes9, takes10}

-- ---- what is taken meets its need

met_by : {x y : Run} (step : ℕ) → some x ≡ some y → meets (need_of step) (stored y) ≡ true → meets (need_of step) (stored x) ≡ true
met_by {x} {y} step e h = cc

pub takes_met : {f : Form} {R : Realm} {terms : List Message} {l : Log} {s r a b m t : ℕ} {act : Act} {x : Run}
    → Takes f R terms l (Step s r a b m t) act
    → run l r ≡ some x
    → meets (need_of s) (stored x) ≡ true
unfolding need_table
takes_met (takes1 i p s f) h = refl
takes_met (takes2 i p s) h = refl
takes_met (takes3 d p s f) h = refl
takes_met (takes4 x e d o t f) h = met_by 4 (sym h ∙ e) refl
takes_met (takes5 e d t u v n s f) h = met_by 5 (sym h ∙ e) refl
takes_met (takes6 e d t) h = met_by 6 (sym h ∙ e) refl
takes_met (takes7 c) h = refl
takes_met (takes8 c) h = refl
takes_met (takes9 e) h = met_by 9 (sym h ∙ e) refl
takes_met (takes10 d) h = refl

-- A run by its role and stage, for matching.
pub data At : Role → Stage → Run → Type 0 where
  at_initiator_opened : {a b : ℕ} → At Initiator Opened (initiator_opened a b)
  at_initiator_authenticated : {a b k ts ta : ℕ} → At Initiator Authenticated (initiator_authenticated a b k ts ta)
  at_initiator_done : {a b k ts ta : ℕ} → At Initiator Done (initiator_done a b k ts ta)
  at_responder_opened : {a b : ℕ} → At Responder Opened (responder_opened a b)
  at_responder_done : {a b k ts ta : ℕ} → At Responder Done (responder_done a b k ts ta)
  at_server_done : {a b k ts n : ℕ} → At Server Done (server_done a b k ts n)

stored_at : (x : Run) → At (stored x).role (stored x).stage x
stored_at (initiator_opened a b) = at_initiator_opened
stored_at (initiator_authenticated a b k ts ta) = at_initiator_authenticated
stored_at (initiator_done a b k ts ta) = at_initiator_done
stored_at (responder_opened a b) = at_responder_opened
stored_at (responder_done a b k ts ta) = at_responder_done
stored_at (server_done a b k ts n) = at_server_done

at_by : {role role' : Role} {stage stage' : Stage} {x : Run} → role ≡ role' → stage ≡ stage' → At role stage x → At role' stage' x
at_by e f h = rw (← e, ← f) h

pub meets_at : (x : Run) (role : Role) (stage : Stage) → is_at (stored x) role stage ≡ true → At role stage x
meets_at x role stage h = let e = is_at_same (stored x) role stage h in at_by e.0 e.1 (stored_at x)
