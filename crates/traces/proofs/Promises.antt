-- What the crate promises of every rule set. The definitions that it is stated in, in reading order: Lists, Realm, Terms and Places;
-- Logs (what was done and sent), Conditions, RuleSets (a rule set, and how a list of calls is read by it) and Engines (what an
-- engine must show); Origins (what must be shown of a rule set for secrecy: `Sound`) and Rows (of its table of runs: `Telling`), with
-- Secrets. Laws is proofs; Sample is a realm for examples.
-- Assumes nothing.
use Rattle.std.specs.Prelude.{ℕ, ◌≡◌, refl, List}
use Rattle.std.proofs.Math.Option.{Option, some}
use Rattle.std.proofs.Math.ListN.{get_elem?}
use Rattle.terms.specs.Message.{long_term, session, Message, key, encrypted}
use Rattle.exchange.specs.declared.call.Call.{Call}
use Rattle.exchange.specs.Calls.{AllSized}
use Rattle.traces.specs.Conditions.{Derivable}
use Rattle.traces.specs.Engines.{Agrees, Engine, after, history}
use Rattle.traces.proofs.Laws.Histories.{fits, lawful, trace_of}
use Rattle.traces.specs.Lists.{◌∈◌, ◌⊑◌}
use Rattle.traces.specs.Logs.{Act, Log, Did, Trace}
use Rattle.traces.proofs.Logs.{trace_at}
use Rattle.traces.specs.Origins.{Origins, Made, Leaked, Issued, Sound}
use Rattle.traces.specs.Realm.{Realm, Good, HeaderPasses}
use Rattle.traces.proofs.Rows as rows
use Rattle.traces.specs.Rows.{Telling}
use Rattle.traces.specs.RuleSets.{History, RuleSet, reading, log, Lawful, Adds}
use Rattle.traces.proofs.Laws.Secrecy as secrecy
use Rattle.traces.specs.Laws.Secrecy.{Shows}
use Rattle.traces.proofs.Laws.Secrecy.{issued_safe}

-- ---- engines

module _ (S : RuleSet) (R : Realm) where
  -- A lawful history reads as a trace,
  pub lawful_trace : (h : History) → Lawful S R h → Trace (Adds S R) (log S h)
  lawful_trace h w = trace_of S w

  module _ (E : Engine S R) where
    -- an engine's histories are lawful,
    pub engine_lawful : HeaderPasses R → (cs : List Call) → AllSized cs → Lawful S R (history S R E cs)
    engine_lawful header cs z = lawful S R E header cs z

    -- and after each call its tables agree with the reading.
    pub tables_agree : (cs : List Call) → AllSized cs → Agrees S R (E.tables (after S R E cs)) (reading S (history S R E cs))
    tables_agree cs z = E.agrees _ _ (fits S R E cs z)

-- ---- where messages come from

module _ {Event : Type 0} {O : Origins Event} {R : Realm} {Adds : Log Event → Act Event → Type 0} (S : Sound O R Adds)
    {l : Log Event} (w : Trace Adds l) where
  -- What can be derived under a good principal's key was made.
  pub under_good : {q : ℕ} {m : Message} → Good R q → Derivable R l (encrypted m (long_term q)) → Made O l (encrypted m (long_term q))
  under_good g d = secrecy.made_long_term S w g d

  -- A key issued to two good principals, at each point p at which it has not leaked:
  module _ {p : Log Event} {A B k : ℕ} (goodA : Good R A) (goodB : Good R B) (issued : Issued O l k A B) (s : p ⊑ l)
      (unleaked : ¬ (Leaked O p k)) where
    -- it cannot be derived,
    pub secret : ¬ (Derivable R p (key (session k)))
    secret d = secrecy.key_secret S (trace_at w s) (issued_safe S w goodA goodB issued s unleaked) refl d

    -- what can be derived under it was made,
    pub under_it : {m : Message} → Derivable R p (encrypted m (session k)) → Made O p (encrypted m (session k))
    under_it d = secrecy.made_session S (trace_at w s) (issued_safe S w goodA goodB issued s unleaked) refl d

    -- and what can be derived that shows it under anybody's key was made.
    pub showing_it : {q : ℕ} {m : Message} → Shows k m → Derivable R p (encrypted m (long_term q)) → Made O p (encrypted m (long_term q))
    showing_it h d = secrecy.made_showing S (trace_at w s) (issued_safe S w goodA goodB issued s unleaked) refl h d

-- ---- the table of runs

module _ {Event Run : Type 0} {Adds : Log Event → Act Event → Type 0} {runs : Log Event → List Run}
    {of : Event → Option ℕ} {story : ℕ → Option Run → List Event} (T : Telling Adds runs of story) where
  -- Each event of a run is told by its row, and what a row tells was done.
  pub recorded : {l : Log Event} {e : Event} {r : ℕ} → Trace Adds l → Did l e → of e ≡ some r → e ∈ story r (get_elem? (runs l) r)
  recorded w i h = rows.recorded T w i h

  pub traced : {l : Log Event} {r : ℕ} {e : Event} → Trace Adds l → e ∈ story r (get_elem? (runs l) r) → Did l e
  traced w h = rows.traced T w h
