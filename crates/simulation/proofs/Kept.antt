-- A call keeps tables together that hold together: what the unchecked call asks for holds again after it.
-- Assumes nothing.
use Rattle.std.specs.Prelude.{ℕ, ◌≡◌, refl, List, length, Ok, Err}
use Rattle.std.proofs.Common.{subst}
use Rattle.words.specs.Word.{packed}
use Rattle.terms.specs.Add.{add_of, AddsTerm}
use Rattle.terms.proofs.Add.{adds}
use Rattle.terms.specs.Number.{terms_of}
use Rattle.terms.specs.Outcome as terms
use Rattle.messages.specs.Lent.{over}
use Rattle.sending.proofs.Promises.{send_room}
use Rattle.sending.specs.Send.{entered_all, marked_all, sent, send_of}
use Rattle.exchange.specs.declared.call.Call.{Call}
use Rattle.exchange.specs.declared.call.Call.TheVariants as calls
use Rattle.exchange.specs.Calls.{Sized}
use Rattle.realm.specs.declared.input.Step.{Step}
use Rattle.realm.specs.Fields.{call_of}
use Rattle.realm.specs.Tables.{Tables, Together}
use Rattle.decisions.specs.declared.Effect.{Effect}
use Rattle.decisions.specs.Decision.{decision, Verdict}
use Rattle.decisions.specs.Effects.{messages_of}
use Rattle.decisions.proofs.Laws.Verdict.{decision_takes}
use Rattle.effects.specs.Apply.{applied}
use Rattle.simulation.proofs.Taken.{step_together}
use Rattle.simulation.proofs.Terms.{term_together}
use Rattle.effects.specs.Call.{adding, with_adding, by_verdict, stepped, called}

-- the terms of a step that is taken fit, so its messages are sent
pub step_sends : (t : Tables) (s : Step) {x : Effect} → decision t s ≡ Ok x
    → let ms = messages_of t.terms x.sends in let xs = entered_all (terms_of t.terms t.realm.terms) ms in
    send_of t.terms t.wire t.realm.terms ms ≡ sent (length xs) (over xs t.terms) (marked_all t.wire xs ms)
step_sends t s {x} d = send_room t.terms t.wire t.realm.terms (messages_of t.terms x.sends) (decision_takes t s d).1

module _ {t : Tables} (w : Together t) where
  by_verdict_lem : (s : Step) → Sized (call_of s) → (v : Verdict) → decision t s ≡ v → Together (by_verdict t v).tables
  unfolding applied
  by_verdict_lem s size (Ok x) d = step_together w s (decision_takes t s d).0 (step_sends t s d) size
  by_verdict_lem s size (Err k) d = w

  by_adding : (kind l r : ℕ) → Sized (calls.Term kind l r) → (a : terms.TermAnswer) (count : ℕ) (ts : List ℕ)
      → add_of t.realm.n t.terms t.realm.terms (packed kind l r) ≡ record { answer = a; count = count; table = ts }
      → Together (with_adding t (adding t.realm (record { answer = a; count = count; table = ts }))).tables
  by_adding kind l r size (terms.number i) count ts e = term_together w kind l r size e
  by_adding kind l r size (terms.refused k) count ts e =
      let same = (subst (AddsTerm t.realm.n t.terms t.realm.terms (packed kind l r)) e (adds w.terms_hold (packed kind l r))).is in
      rw (same.0, same.1) w

pub call_kept : (t : Tables) (c : Call) → Sized c → Together t → Together (called t c).tables
unfolding called stepped
call_kept t (calls.Term kind l r) size w = by_adding w kind l r size _ _ _ refl
call_kept t (calls.Step step run a b m time) size w =
    let s : Step = record { step = step; run = run; a = a; b = b; m = m; t = time } in
    by_verdict_lem w s size (decision t s) refl
