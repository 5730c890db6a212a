-- What this crate promises. The definitions that it is stated in, in reading order: Messages (with the forms), Log and Rules (what
-- the steps mean), Reading and Words (how a list of calls with its answers is read), Agreement (the claims), Entries (who fills the
-- replay cache). Examples shows that demand 3 is not empty in any form and, in the parallel one, that its conditions are needed; proofs are in Laws, and what is
-- argued for each form singly is in Laws/Forms.
-- Assumes nothing.
use Rattle.std.specs.Prelude.{ℕ, ◌≡◌, true, List}
use Rattle.std.proofs.Math.Option.{some}
use Rattle.terms.specs.Message.{Message}
use Rattle.exchange.specs.declared.call.Call.{Call}
use Rattle.exchange.specs.declared.call.Call.TheVariants.{Step}
use Rattle.exchange.specs.Calls.{AllSized}
use Rattle.exchange.specs.Needs.{need_of, meets}
use Rattle.traces.specs.Realm.{Realm, HeaderPasses}
use Rattle.traces.specs.RuleSets.{History, Reading}
use Rattle.traces.specs.Engines.{Engine, history}
use Rattle.traces.proofs.Laws.Histories.{lawful}
use Rattle.exchange.specs.declared.form.Form.{Form}
use Rattle.kerberos.specs.Log.{Event, Act, Log, Run, run, stored}
use Rattle.kerberos.specs.Rules.{Takes}
use Rattle.kerberos.specs.Reading.{rules, act_of, Lawful}
use Rattle.kerberos.specs.Agreement.{Demand3, Secrecy}
use Rattle.kerberos.specs.Entries.{Entries}
use Rattle.kerberos.proofs.Laws.Entries.{entered}
use Rattle.kerberos.proofs.Laws.Histories.{agreement, secrecy, taken_read}
use Rattle.kerberos.proofs.Laws.Needs.{takes_met}

-- Demand 3 holds of every list of calls in which each accepted call is one that the rules take, in each form.
pub demand3 : (f : Form) (R : Realm) (h : History) → Lawful f R h → Demand3 f R h
demand3 f R h w = agreement w

-- The intruder cannot derive a key that was issued to two good principals and has not leaked.
pub secret_keys : (f : Form) (R : Realm) (h : History) → Lawful f R h → Secrecy f R h
secret_keys f R h w = secrecy w

-- Each entry of the replay cache comes from an acceptance of a time near the clock, and is the initiator's own unless the intruder has
-- a key for it.
pub entries : (f : Form) (R : Realm) (h : History) → Lawful f R h → Entries f R h
entries f R h w = entered w

-- They hold of an engine, for every header that refusal 2 lets pass and every list of calls: its list is such a one.
pub engine_lawful : (f : Form) (R : Realm) → HeaderPasses R → (E : Engine (rules f) R) (cs : List Call) → AllSized cs → Lawful f R (history (rules f) R E cs)
engine_lawful f R header E cs z = lawful (rules f) R E header cs z

-- Rules and reading agree: a call is read as what the rules take it for.
pub rules_read : {f : Form} {R : Realm} (ρ : Reading Event) {c : Call} {a : Act} → Takes f R ρ.terms ρ.log c a → act_of f c ρ ≡ a
rules_read ρ t = taken_read ρ t

-- The constant table and the rules agree: the run that a taken step names meets the step's need.
pub rules_met : {f : Form} {R : Realm} {terms : List Message} {l : Log} {s r a b m t : ℕ} {act : Act} {x : Run}
    → Takes f R terms l (Step s r a b m t) act
    → run l r ≡ some x
    → meets (need_of s) (stored x) ≡ true
rules_met t h = takes_met t h
