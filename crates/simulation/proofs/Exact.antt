-- What follows from the definitions of the same name in specs/.
-- Assumes nothing.
use Rattle.std.specs.Prelude.{ℕ, ◌≤◌, ◌≡◌, refl, Bool, true, false, cond, ◌↔◌, leb, Option, Ok}
use Rattle.std.proofs.Common.{sym, ◌∙◌, arith}
use Rattle.std.proofs.Math.Path.{ap, subst}
use mathlib.Core.List.{List}
use Rattle.std.proofs.Math.Option.{some}
use Rattle.std.proofs.Math.ListN.{length}
use Rattle.words.specs.Word.{packed}
use Rattle.terms.specs.Add.{add_of}
use Rattle.terms.specs.Message.{Message}
use Rattle.terms.specs.Number.{terms_of}
use Rattle.messages.specs.Lent.{over}
use Rattle.messages.specs.Listed.{insert, add_all}
use Rattle.messages.specs.Meanings.{meanings}
use Rattle.sending.proofs.Promises.{send_fits}
use Rattle.sending.specs.Send.{sent, refused, entered_all, marked_all, fits_in, send_of}
use Rattle.exchange.specs.declared.call.Accepted.TheVariants.{Taken}
use Rattle.exchange.specs.declared.call.Call.{Call}
use Rattle.exchange.specs.declared.call.Call.TheVariants as calls
use Rattle.exchange.specs.Calls.{accepts, added_by, Sized}
use Rattle.traces.specs.Engines.{Agrees}
use Rattle.traces.specs.Realm.{Realm}
use Rattle.traces.specs.RuleSets.{Reading}
use Rattle.traces.specs.Terms.{TermsFit, message_from}
use Rattle.kerberos.specs.Log.{Event, Act}
use Rattle.exchange.specs.Forms.{form_of}
use Rattle.kerberos.specs.Reading.{set_of, act_of}
use Rattle.kerberos.specs.Rules.{Takes, takes_term}
use Rattle.kerberos.proofs.Theorems.{rules_read}
use Rattle.realm.specs.declared.input.Step.{Step}
use Rattle.realm.specs.Opening.{header}
use Rattle.realm.specs.Tables.{Tables, Together}
use Rattle.decisions.specs.declared.Effect.{Effect}
use Rattle.decisions.specs.Decision.{decision}
use Rattle.decisions.specs.Effects.{messages_of}
use Rattle.decisions.proofs.Laws.Exact.{took_decided}
use Rattle.decisions.proofs.Laws.Fits.{took_fits}
use Rattle.decisions.specs.Laws.Took.{form_at, Took, took1, took2, took3, took4, took5, took6, took7, took8, took9, took10}
use Rattle.effects.specs.Apply.{applied}
use Rattle.effects.specs.Call.{numbered, stepped, called}
use Rattle.simulation.proofs.Back.{takes_took, takes_fits}
use Rattle.simulation.specs.Engine.{Follows}
use Rattle.simulation.proofs.Engine.{call_takes}
use Rattle.simulation.proofs.TermsBack.{term_accepted}
use Rattle.simulation.specs.Told.{named_by, step_told, term_told, GrowsBy}
use Rattle.simulation.proofs.Told.{step_grows, term_told_lem}
use Rattle.simulation.specs.Values.{values_of}
use Rattle.simulation.specs.Exact.{Takable}

took_told : {t : Tables} {c : Call} {e : Event} {x : Effect} → Took t c e x → x.names ≡ named_by e
took_told (took1 p l) = refl
took_told (took2 p l) = refl
took_told (took3 d p l) = refl
took_told (took4 v d c i) = refl
took_told (took5 v d i) = refl
took_told (took6 v d i) = refl
took_told (took7 h) = refl
took_told (took8 h) = refl
took_told (took9 v) = refl
took_told (took10 d) = refl

-- what was sent fits
sent_fits : (b : Bool) (c : ℕ) (us vs ts ws : List ℕ) {k : ℕ} {ts' ws' : List ℕ} → cond b (sent c us vs) (refused 20 ts ws) ≡ sent k ts' ws' → b ≡ true
sent_fits true c us vs ts ws e = refl
sent_fits false c us vs ts ws e = let z : ◌≡◌ {A = ℕ} 0 1 = cc in absurd (omega arith)

module _ {t : Tables} (w : Together t) where
  -- terms that fit by the rules fit in the table
  room : (x : Effect) {c : Call} {e : Event} → Took t c e x → {terms : List Message} → meanings t.terms t.realm.terms ≡ terms
      → TermsFit (messages_of t.terms x.sends) terms → fits_in t.terms t.realm.terms (messages_of t.terms x.sends) ≡ true
  unfolding send_of
  room x k same fit =
      let xs = entered_all (terms_of t.terms t.realm.terms) (messages_of t.terms x.sends) in
      sent_fits (leb (length xs) 512) (length xs) (over xs t.terms) (marked_all t.wire xs (messages_of t.terms x.sends)) t.terms t.wire
      (send_fits t.realm.n (omega (arith, w.header_fits.most)) w.terms_hold t.wire (messages_of t.terms x.sends) (took_fits t w k).writes
      (subst (TermsFit (messages_of t.terms x.sends)) (sym same) fit))

  module _ (ρ : Reading Event) (a : Agrees (set_of (header t.realm)) (header t.realm) (values_of (header t.realm) t) ρ) where
    -- a step that the rules take is decided so,
    step_decided : (s : Step) {act : Act} → Takes (form_at t) (header t.realm) ρ.terms ρ.log (calls.Step s.step s.run s.a s.b s.m s.t) act
        → (x : Effect) × (decision t s ≡ Ok x) × (x.names ≡ named_by act.0)
    unfolding decision
    step_decided s {act} k =
        let met = takes_took t ρ w a k in
        let x = met.effect in
        let fit = room x met.took a.terms_are (subst (λ (ms : List Message). TermsFit ms ρ.terms) (sym met.sends) (takes_fits t ρ w a k)) in
        (x, rw (took_decided t w s met.took, fit), took_told met.took)

    -- and accepted, with the run of its event;
    pub step_accepted : (s : Step) {act : Act} → Takes (form_at t) (header t.realm) ρ.terms ρ.log (calls.Step s.step s.run s.a s.b s.m s.t) act
        → (stepped t s).answer ≡ Ok (Taken (named_by act.0) (added_by (stepped t s).answer))
    unfolding stepped applied
    step_accepted s k = let d = step_decided s k in rw d.1 (ap (λ (who : Option ℕ). Ok (Taken who (added_by (applied t d.0).answer))) d.2)

    -- so is a term.
    term_taken : (kind x y : ℕ) → Sized (calls.Term kind x y) → {act : Act} → Takes (form_at t) (header t.realm) ρ.terms ρ.log (calls.Term kind x y) act
        → (grown : ℕ) → accepts (numbered (add_of t.realm.n t.terms t.realm.terms (packed kind x y)).answer grown) ≡ true
    term_taken kind x y size (takes_term {m = m} fields made fit) grown =
        term_accepted w.terms_hold kind x y size fields (subst (λ (l : List Message). message_from l kind x y ≡ some m) (sym a.terms_are) made) grown
        (subst (λ (l : List Message). length (insert m l) ≤ 512) (sym a.terms_are) fit)

module _ {R : Realm} (t : Tables) (ρ : Reading Event) (f : Follows R t ρ) where
  there : (c : Call) → Sized c → accepts (called t c).answer ≡ true → Takable R ρ c
  there c size e = record { act = act_of (form_of R.rules) c ρ; takes = call_takes t ρ c size f e }

  pub own : Agrees (set_of (header t.realm)) (header t.realm) (values_of (header t.realm) t) ρ
  own = subst (λ (R : Realm). Agrees (set_of R) R (values_of R t) ρ) (sym f.header_is) f.agrees

  by_own : (c : Call) {act : Act} → Takes (form_of R.rules) R ρ.terms ρ.log c act → Takes (form_at t) (header t.realm) ρ.terms ρ.log c act
  by_own c {act} k = subst (λ (R : Realm). Takes (form_of R.rules) R ρ.terms ρ.log c act) (sym f.header_is) k

  pub step_answer : (step r a b m now : ℕ) {act : Act} → Takes (form_of R.rules) R ρ.terms ρ.log (calls.Step step r a b m now) act
      → (called t (calls.Step step r a b m now)).answer ≡ step_told ρ.terms act
  unfolding called
  step_answer step r a b m now {act} k =
      let c = calls.Step step r a b m now in
      let told = step_accepted f.together ρ own (record { step = step; run = r; a = a; b = b; m = m; t = now }) (by_own c k) in
      let grows = subst (GrowsBy R ρ c) told (step_grows f step r a b m now) in
      let acted = ap (λ (x : Act). length (add_all x.1 ρ.terms)) (rules_read ρ k) in
      told ∙ ap (λ (k : ℕ). Ok (Taken (named_by act.0) k)) (omega (arith, grows, acted))

  back : (c : Call) → Sized c → Takable R ρ c → accepts (called t c).answer ≡ true
  unfolding called
  back (calls.Term kind x y) size k = term_taken f.together ρ own kind x y size (by_own (calls.Term kind x y) k.takes) _
  back (calls.Step step r a b m now) size k = ap accepts (step_answer step r a b m now k.takes)

  pub accepted_exact : (c : Call) → Sized c → (accepts (called t c).answer ≡ true) ↔ Takable R ρ c
  accepted_exact c size = (there c size, back c size)

  -- a term that the rules take is told by the place of its message
  pub term_answer : (kind x y : ℕ) → Sized (calls.Term kind x y) → {act : Act} {m : Message} → Takes (form_of R.rules) R ρ.terms ρ.log (calls.Term kind x y) act
      → message_from ρ.terms kind x y ≡ some m → (called t (calls.Term kind x y)).answer ≡ term_told 0 ρ.terms m
  unfolding called
  term_answer kind x y size {act} {m} k made =
      subst (λ (l : List Message). (called t (calls.Term kind x y)).answer ≡ term_told 0 l m) f.agrees.terms_are
      (term_told_lem f.together.terms_hold kind x y size (subst (λ (l : List Message). message_from l kind x y ≡ some m) (sym f.agrees.terms_are) made)
      (back (calls.Term kind x y) size (record { act = act; takes = k })))
