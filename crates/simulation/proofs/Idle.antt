-- Steps that change nothing: "10 | accepted if the intruder can build m; changes nothing", "9 | .. leaking it again changes nothing".
-- Assumes nothing.
use Rattle.std.specs.Prelude.{ℕ, ◌≡◌, true, List, Ok, Err}
use Rattle.std.proofs.Math.Path.{refl, ap}
use Rattle.std.proofs.Common.{sym, subst, ◌∙◌}
use Rattle.marks.proofs.Promises.{again}
use Rattle.terms.specs.Message.{session, key}
use Rattle.deduction.specs.Known.{Known}
use Rattle.sending.proofs.Promises.{send_none, send_present, send_room}
use Rattle.sending.specs.Send.{sent, send_of, fits_in}
use Rattle.exchange.specs.declared.call.Call.TheVariants as calls
use Rattle.kerberos.specs.Log.{Event}
use Rattle.realm.specs.declared.input.Step.{Step}
use Rattle.realm.specs.Tables.{Tables, Together}
use Rattle.decisions.specs.declared.Effect.{Effect}
use Rattle.decisions.specs.Decision.{decision, Verdict}
use Rattle.decisions.specs.Effects.{messages_of, nothing, leaking}
use Rattle.decisions.specs.Laws.Took.{Took, took9, took10}
use Rattle.decisions.proofs.Laws.Verdict.{decision_takes}
use Rattle.decisions.proofs.Promises.{taken_as}
use Rattle.effects.specs.Apply.{Outcome, applied_with, applied}
use Rattle.effects.specs.Call.{by_verdict, stepped, called}
use Rattle.effects.proofs.Laws.Apply.{by_sending}

-- what is written, once it is known what came of sending
pub applied_as : (t : Tables) (x : Effect) {count : ℕ} {ts ws : List ℕ} → fits_in t.terms t.realm.terms (messages_of t.terms x.sends) ≡ true
    → send_of t.terms t.wire t.realm.terms (messages_of t.terms x.sends) ≡ sent count ts ws → applied t x ≡ applied_with t x count ts ws
unfolding applied
applied_as t x f o = ap (by_sending t x) (sym (send_room t.terms t.wire t.realm.terms (messages_of t.terms x.sends) f) ∙ o)

queried : {t : Tables} {r a b m now : ℕ} {e : Event} {x : Effect} → Took t (calls.Step 10 r a b m now) e x → x ≡ nothing t.realm.clock
queried (took10 d) = refl

leaked : {t : Tables} {r a b m now : ℕ} {e : Event} {x : Effect} → Took t (calls.Step 9 r a b m now) e x → x ≡ leaking t.realm.clock r
leaked (took9 v) = refl

module _ (t : Tables) (w : Together t) where
  -- an effect that is no more than this message's, or none's, and leaves what was sent as it was
  by_verdict_lem : (s : Step) (x : Effect) → ((y : Effect) → decision t s ≡ Ok y → y ≡ x)
      → send_of t.terms t.wire t.realm.terms (messages_of t.terms x.sends) ≡ sent t.realm.terms t.terms t.wire
      → (applied_with t x t.realm.terms t.terms t.wire).tables ≡ t
      → (v : Verdict) → decision t s ≡ v → (by_verdict t v).tables ≡ t
  by_verdict_lem s x is o idle (Err k) d = refl
  by_verdict_lem s x is o idle (Ok y) d =
      let same = is y d in
      let fits = subst (λ (z : Effect). fits_in t.terms t.realm.terms (messages_of t.terms z.sends) ≡ true) same (decision_takes t s d).1 in
      ap (λ (z : Effect). (applied t z).tables) same ∙ ap (λ (q : Outcome). q.tables) (applied_as t x fits o) ∙ idle

  pub query_kept : (r a b m now : ℕ) → (called t (calls.Step 10 r a b m now)).tables ≡ t
  unfolding called stepped
  query_kept r a b m now =
      let s : Step = record { step = 10; run = r; a = a; b = b; m = m; t = now } in
      by_verdict_lem s (nothing t.realm.clock) (λ y d. queried (taken_as t s w (decision_takes t s d).0).took)
      (send_none t.terms t.wire t.realm.terms w.terms_hold.size w.terms_hold.room) refl (decision t s) refl

  pub leak_kept : (r a b m now : ℕ) → Known t.terms t.realm.terms t.wire (key (session r)) → (called t (calls.Step 9 r a b m now)).tables ≡ t
  unfolding called stepped
  leak_kept r a b m now k =
      let s : Step = record { step = 9; run = r; a = a; b = b; m = m; t = now } in
      by_verdict_lem s (leaking t.realm.clock r) (λ y d. leaked (taken_as t s w (decision_takes t s d).0).took)
      (send_present w.terms_hold t.wire (key (session r)) k.at k.below k.is ∙ ap (sent t.realm.terms t.terms) (again t.wire k.at k.mark))
      refl (decision t s) refl
