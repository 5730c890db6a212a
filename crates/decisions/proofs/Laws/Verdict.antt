-- The verdict turned round: a step that is decided to be taken has met what its row of the step table asks for.
-- Assumes nothing.
use Prim.Native.Nat.{ℕ, ◌+◌, ◌<◌, ◌≤◌}
use Rattle.std.specs.Prelude.{◌≡◌, Bool, true, false, not, ◌&&◌, eqb, Ok, Err, Option, None, Some}
use Rattle.std.proofs.Math.Path.{refl, subst}
use Rattle.std.proofs.Common.{sym, ap, ◌∙◌, arith, ltb-true, leb-true, eqb-true}
use Rattle.std.proofs.lemmas.Bool.{eqb-false, not-true}
use Rattle.terms.specs.Meaning.{message_at}
use Rattle.terms.specs.Number.{number_in, terms_of}
use Rattle.terms.specs.Message.{Message, pair}
use Rattle.deduction.specs.Derives.{Derives}
use Rattle.deduction.specs.Known.{Known}
use Rattle.synthesis.proofs.Promises.{function_exact}
use Rattle.forms.specs.Forms.{request_in, confirmation_in}
use Rattle.forms.specs.Grant.{Granted, grant_in}
use Rattle.forms.proofs.Promises.{is_request, is_grant, is_confirmation}
use Rattle.forms.specs.declared.Confirmation.{Confirmation}
use Rattle.forms.specs.declared.Request.{Request}
use Rattle.forms.specs.Delivery.{delivery_in}
use Rattle.forms.proofs.Promises.{is_delivery}
use Rattle.forms.specs.declared.Delivery.{Delivery}
use Rattle.replay.specs.declared.entry.Entry.{Entry}
use Rattle.terms.proofs.AllOf.{five}
use Rattle.exchange.specs.declared.call.Call.TheVariants as calls
use Rattle.exchange.specs.declared.run.Role.TheVariants.{Initiator, Responder}
use Rattle.exchange.specs.declared.run.Stage.TheVariants.{Opened, Authenticated}
use Rattle.kerberos.specs.Messages.{request, grant, ticket, authenticator, confirmation}
use Rattle.traces.specs.Conditions.{Apart}
use Rattle.realm.specs.declared.input.Step.{Step}
use Rattle.conditions.specs.Conditions.{derivable_at, ticket_lives, admission}
use Rattle.conditions.proofs.Promises.{admission_exact}
use Rattle.sending.specs.Send.{fits_in}
use Rattle.decisions.specs.Effects.{messages_of}
use Rattle.decisions.specs.declared.Effect.{Effect}
use Rattle.decisions.specs.Decision.{need, on_request, on_grant, on_delivery, on_confirmation, Verdict}
use Rattle.decisions.specs.Decision.{decided, roomed, decision}
use Rattle.realm.specs.Tables.{Tables, Together}
use Rattle.kerberos.specs.Reading.{parts}
use Rattle.messages.proofs.Parts.{number_here}
use Rattle.decisions.proofs.Laws.Forms.{x_stands}
use Rattle.decisions.specs.Laws.Took.{row_at, form_at, Meets, Brings, PassesOn, Admits, TookAs, took3, took4, took5, took6}
use Rattle.decisions.proofs.Laws.Took.{took_as}

-- ---- what a verdict says

pub not_refused : {A : Type 0} {number : ℕ} {e : Effect} → ◌≡◌ {A = Verdict} (Err number) (Ok e) → A
not_refused q = let z : ◌≡◌ {A = ℕ} 0 1 = cc in absurd (omega arith)

pub same_effect : {x e : Effect} → ◌≡◌ {A = Verdict} (Ok x) (Ok e) → x ≡ e
same_effect q = cc

pub need_takes : (ok : Bool) (number : ℕ) (v : Verdict) {e : Effect} → need ok number v ≡ Ok e → (ok ≡ true) × (v ≡ Ok e)
need_takes true number v q = (refl, q)
need_takes false number v q = not_refused q

module _ (t : Tables) (fits : Together t) where
  admits : (ts b k ta : ℕ) → admission t.realm t.cache ts (record { b = b; k = k; ta = ta }) ≡ 0 → Admits t ts b k ta
  admits ts b k ta e =
      let h = t.realm in
      let x : Entry = record { b = b; k = k; ta = ta } in
      let p = (admission_exact h t.cache ts x).0 e in
      let most : h.entries ≤ 16 = fits.entries_most in
      let other : ¬ (h.entries ≡ 16) = p.4 in
      record {
        timely = record {
          ticket_lives = ltb-true h.clock (ts + h.ls) p.0;
          authenticator_lives = ltb-true h.clock (ta + h.la) p.1;
          not_ahead = leb-true ta (h.clock + h.la) p.2;
        };
        absent = p.3;
        room = omega arith;
      }

  -- a term that can be derived
  pub brings : (m : ℕ) (x : Message) → m < t.realm.terms → message_at t.terms m ≡ x → derivable_at t.realm t.terms t.wire m ≡ true → Brings t m x
  brings m x l q d =
      record {
        below = l;
        is = q;
        derivable = subst (Derives t.realm.n t.realm.flags (Known t.terms t.realm.terms t.wire)) q
            ((function_exact t.realm.flags fits.terms_hold fits.wire_words m l).yes d);
      }

  -- ---- the steps that take a message

  abbrev pub can : ℕ → Bool
  can m = derivable_at t.realm t.terms t.wire m

  pub took_issue : (m : ℕ) → m < t.realm.terms → t.realm.runs < 64 → (q : Option Request) → request_in (message_at t.terms m) ≡ q
      → {e : Effect} → on_request t.realm t.terms t.wire m q ≡ Ok e → TookAs t (calls.Step 3 0 0 0 m 0) e
  took_issue m l room None i v = not_refused v
  took_issue m l room (Some q) i v =
      let p = need_takes (not (eqb q.a 0) && not (eqb q.b 0) && not (eqb q.a q.b)) _ _ v in
      let d = need_takes (can m) _ _ p.1 in
      let f = five true true (not (eqb q.a 0)) (not (eqb q.b 0)) (not (eqb q.a q.b)) p.0 in
      let apart : Apart q.a q.b =
      record { a_not_server = differ q.a 0 f.third; b_not_server = differ q.b 0 f.fourth; unequal = differ q.a q.b f.fifth } in
      subst (TookAs t (calls.Step 3 0 0 0 m 0)) (same_effect d.1)
      (took_as (took3 (brings m (request q.a q.b q.n) l ((is_request (message_at t.terms m) q).0 i) d.0) apart room))
    where
      differ : (x y : ℕ) → not (eqb x y) ≡ true → ¬ (x ≡ y)
      differ x y e = eqb-false x y (not-true (eqb x y) e)

  -- the X of a grant has a number, and the term of that number is the X
  abbrev number_of : Message → ℕ
  number_of x = number_in (terms_of t.terms t.realm.terms) x

  passes_on : (m : ℕ) → m < t.realm.terms → (k b ts n a : ℕ) (x : Message) → message_at t.terms m ≡ grant (form_at t) k b ts n a x
      → x ≡ (parts (form_at t) (message_at t.terms m)).1 → (message_at t.terms (number_of x) ≡ x) × PassesOn t m (number_of x)
  passes_on m l k b ts n a x e is =
      let s = x_stands fits.terms_hold (form_at t) m l k b ts n a x e is in
      let below : s.place < t.realm.terms = omega (arith, s.by, l) in
      let q : number_of x ≡ s.place = ap number_of (sym s.means) ∙ number_here fits.terms_hold s.place below in
      let means = ap (message_at t.terms) q ∙ s.means in
      (means, record { below = omega (arith, q, below); is = means ∙ is })

  pub took_grant : (r m : ℕ) → Meets t r Initiator Opened → m < t.realm.terms → (q : Option Granted) → grant_in (form_at t) (message_at t.terms m) ≡ q
      → {e : Effect} → on_grant t.realm t.terms t.wire r (row_at t r) m q ≡ Ok e → TookAs t (calls.Step 4 r 0 0 m 0) e
  took_grant r m w l None i v = not_refused v
  took_grant r m w l (Some q) i v =
      let p = need_takes (eqb q.b (row_at t r).b && eqb q.n r && eqb q.a (row_at t r).a) _ _ v in
      let d = need_takes (can m) _ _ p.1 in
      let j = need_takes (ticket_lives t.realm q.ts) _ _ d.1 in
      let f = five true true (eqb q.b (row_at t r).b) (eqb q.n r) (eqb q.a (row_at t r).a) p.0 in
      let g = (is_grant (message_at t.terms m) (form_at t) q).0 i in
      let c = passes_on m l q.k q.b q.ts q.n q.a q.x g.0 g.1 in
      let own = same (eqb-true q.b (row_at t r).b f.third) (eqb-true q.n r f.fourth) (eqb-true q.a (row_at t r).a f.fifth) (sym c.0) in
      subst (TookAs t (calls.Step 4 r 0 0 m 0)) (same_effect j.1)
      (took_as (took4 w (brings m (grant (form_at t) q.k (row_at t r).b q.ts r (row_at t r).a (message_at t.terms (number_of q.x))) l (g.0 ∙ own) d.0) c.1 (ltb-true _ _ j.0)))
    where
      same : {b' n' a' : ℕ} {x' : Message} → q.b ≡ b' → q.n ≡ n' → q.a ≡ a' → q.x ≡ x' → grant (form_at t) q.k q.b q.ts q.n q.a q.x ≡ grant (form_at t) q.k b' q.ts n' a' x'
      same eb en ea ex = λ i. grant (form_at t) q.k (eb i) q.ts (en i) (ea i) (ex i)

  pub took_delivery : (r m : ℕ) → Meets t r Responder Opened → m < t.realm.terms → (q : Option Delivery) → delivery_in (message_at t.terms m) ≡ q
      → {e : Effect} → on_delivery t.realm t.terms t.wire t.cache r (row_at t r) m q ≡ Ok e → TookAs t (calls.Step 5 r 0 0 m 0) e
  took_delivery r m w l None i v = not_refused v
  took_delivery r m w l (Some q) i v =
      let p = need_takes (eqb q.a (row_at t r).a && eqb q.b (row_at t r).b) _ _ v in
      let d = need_takes (can m) _ _ p.1 in
      let number = admission t.realm t.cache q.ts (record { b = q.b; k = q.k; ta = q.ta }) in
      let j = need_takes (eqb number 0) number _ d.1 in
      let f = five true true true (eqb q.a (row_at t r).a) (eqb q.b (row_at t r).b) p.0 in
      let ea = eqb-true q.a (row_at t r).a f.fourth in
      let eb = eqb-true q.b (row_at t r).b f.fifth in
      subst (TookAs t (calls.Step 5 r 0 0 m 0)) (same_effect j.1)
      (took_as (took5 w (brings m _ l ((is_delivery (message_at t.terms m) q).0 i ∙ same ea eb) d.0)
      (rw (← eb) (admits q.ts q.b q.k q.ta (eqb-true number 0 j.0)))))
    where
      same : {a' b' : ℕ} → q.a ≡ a' → q.b ≡ b' → pair (ticket q.k q.a q.ts q.b) (authenticator q.a q.ta q.k) ≡ pair (ticket q.k a' q.ts b') (authenticator a' q.ta q.k)
      same x y = cc

  pub took_confirmation : (r m : ℕ) → Meets t r Initiator Authenticated → m < t.realm.terms → (q : Option Confirmation) → confirmation_in (message_at t.terms m) ≡ q
      → {e : Effect} → on_confirmation t.realm t.terms t.wire r (row_at t r) m q ≡ Ok e → TookAs t (calls.Step 6 r 0 0 m 0) e
  took_confirmation r m w l None i v = not_refused v
  took_confirmation r m w l (Some q) i v =
      let p = need_takes (eqb q.ta (row_at t r).ta && eqb q.k (row_at t r).k) _ _ v in
      let d = need_takes (can m) _ _ p.1 in
      let j = need_takes (ticket_lives t.realm (row_at t r).ts) _ _ d.1 in
      let f = five true true true (eqb q.ta (row_at t r).ta) (eqb q.k (row_at t r).k) p.0 in
      let own = same (eqb-true q.ta (row_at t r).ta f.fourth) (eqb-true q.k (row_at t r).k f.fifth) in
      subst (TookAs t (calls.Step 6 r 0 0 m 0)) (same_effect j.1)
      (took_as (took6 w (brings m _ l ((is_confirmation (message_at t.terms m) q).0 i ∙ own) d.0) (ltb-true _ _ j.0)))
    where
      same : {ta' k' : ℕ} → q.ta ≡ ta' → q.k ≡ k' → confirmation q.ta q.k ≡ confirmation ta' k'
      same x y = cc

-- ---- 20

-- a step that is taken was taken by its row of the step table, and its terms fit
pub decision_takes : (t : Tables) (s : Step) {x : Effect} → decision t s ≡ Ok x → (decided t s ≡ Ok x) × (fits_in t.terms t.realm.terms (messages_of t.terms x.sends) ≡ true)
unfolding decision
decision_takes t s {x} d = by (decided t s) d
  where
    by : (v : Verdict) → roomed t v ≡ Ok x → (v ≡ Ok x) × (fits_in t.terms t.realm.terms (messages_of t.terms x.sends) ≡ true)
    by (Err k) e = not_refused e
    by (Ok y) e =
        let q = need_takes (fits_in t.terms t.realm.terms (messages_of t.terms y.sends)) 20 (Ok y) e in
        (q.1, subst (λ (z : Effect). fits_in t.terms t.realm.terms (messages_of t.terms z.sends) ≡ true) (same_effect q.1) q.0)
