-- On tables that hold together the public call is the engine's call, so lists of public calls from a new realm are the engine's.
-- Assumes nothing.
use Rattle.std.specs.Prelude.{◌≡◌, refl, List, [], ◌∷◌}
use Rattle.std.proofs.Common.{sym, ap, subst, ◌∙◌}
use Rattle.exchange.specs.declared.call.Call.{Call}
use Rattle.exchange.specs.Calls.{AllSized}
use Rattle.traces.specs.Engines.{Agrees, after, history}
use Rattle.traces.proofs.Laws.Histories.{fits}
use Rattle.traces.specs.Realm.{Realm}
use Rattle.traces.specs.RuleSets.{History, reading}
use Rattle.exchange.specs.Forms.{form_of}
use Rattle.kerberos.specs.Reading.{set_of, Lawful}
use Rattle.realm.specs.Tables.{Tables, Together}
use Rattle.effects.specs.Apply.{Outcome}
use Rattle.effects.specs.Call.{called}
use Rattle.simulation.specs.Engine.{New, Follows}
use Rattle.simulation.proofs.Engine.{engine_of}
use Rattle.simulation.proofs.Promises.{lawful_calls, ten_unmet}
use Rattle.simulation.specs.Values.{values_of}
use Rattle.calls.specs.Lent.{lent_call}
use Rattle.calls.proofs.Lent.{lent_checked}
use Rattle.calls.specs.Lists.{lent_after, lent_history}

pub lent_called : (t : Tables) (c : Call) → Together t → lent_call t c ≡ called t c
lent_called t c w = sym (lent_checked t c w.places) ∙ ten_unmet t c w

module _ (R : Realm) (t : Tables) (new : New R t) where
  -- the engine's tables hold together,
  engine_together : (cs : List Call) → AllSized cs → Together (after (set_of R) R (engine_of R t new) cs)
  engine_together cs size = (fits (set_of R) R (engine_of R t new) cs size).together

  same : (cs : List Call) → AllSized cs → lent_after t cs ≡ after (set_of R) R (engine_of R t new) cs → (c : Call)
      → lent_call (lent_after t cs) c ≡ called (after (set_of R) R (engine_of R t new) cs) c
  same cs size e c = ap (λ (s : Tables). lent_call s c) e ∙ lent_called (after (set_of R) R (engine_of R t new) cs) c (engine_together cs size)

  -- so each public call is the engine's
  same_after : (cs : List Call) → AllSized cs → lent_after t cs ≡ after (set_of R) R (engine_of R t new) cs
  same_after [] size = refl
  same_after (c ∷ cs) size = ap (λ (o : Outcome). o.tables) (same cs size.1 (same_after cs size.1) c)

  same_history : (cs : List Call) → AllSized cs → lent_history t cs ≡ history (set_of R) R (engine_of R t new) cs
  same_history [] size = refl
  same_history (c ∷ cs) size = λ i.
      (c, ap (λ (o : Outcome). o.answer) (same cs size.1 (same_after cs size.1) c) i) ∷ same_history cs size.1 i

  -- and the public call's tables follow the reading of the public calls
  pub lent_follows : (cs : List Call) → AllSized cs → Follows R (lent_after t cs) (reading (set_of R) (lent_history t cs))
  lent_follows cs size =
      subst (λ (s : Tables). Follows R s (reading (set_of R) (lent_history t cs))) (sym (same_after cs size))
      (subst (λ (p : History). Follows R (after (set_of R) R (engine_of R t new) cs) (reading (set_of R) p)) (sym (same_history cs size)) (fits (set_of R) R (engine_of R t new) cs size))

  pub lent_lawful : (cs : List Call) → AllSized cs → Lawful (form_of R.rules) R (lent_history t cs)
  lent_lawful cs size = subst (Lawful (form_of R.rules) R) (sym (same_history cs size)) (lawful_calls R t new cs size)

  pub lent_agrees : (cs : List Call) → AllSized cs → Agrees (set_of R) R (values_of R (lent_after t cs)) (reading (set_of R) (lent_history t cs))
  lent_agrees cs size = (lent_follows cs size).agrees
