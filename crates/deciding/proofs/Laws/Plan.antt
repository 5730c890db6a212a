-- What is sent: nothing, one message, or the reply and the ticket apart. A draft can be sent where the fields of its messages are in
-- range, and what is sent then are these messages.
-- Assumes nothing.
use Rattle.std.specs.Prelude.{◌≡◌, refl, Option, Some, None, true, List, [], ◌∷◌, ℕ, ◌<◌, length}
use Rattle.std.proofs.Common.{sym, ap, ap₂, ◌∙◌, subst, arith}
use Rattle.drafts.specs.Draft.{draft_message, draft_fits}
use Rattle.terms.specs.Meaning.{message_at}
use Rattle.terms.specs.Message.{Message}
use Rattle.drafts.specs.Writes.{Writes}
use Rattle.drafts.specs.declared.Node.{Node}
use Rattle.exchange.specs.declared.form.Form.{Form}
use Rattle.exchange.specs.declared.form.Form.TheVariants.{Parallel, Kerberos5, Kerberos4}
use Rattle.kerberos.specs.Messages.{authenticator}
use Rattle.layouts.specs.Drafts.{REQUEST_ROOT, REPLY_ROOT, TICKET_ROOT, BESIDE_ROOT, INSIDE_ROOT, AUTHENTICATOR_ROOT, PRESENTED_ROOT, CONFIRMATION_ROOT, KEY_ROOT, presented_draft}
use Rattle.layouts.proofs.Promises.{request_at, reply_at, ticket_at, beside_at, inside_at, authenticator_at, presented_at, confirmation_at, key_at}
use Rattle.layouts.proofs.Promises.{request_fits, issue_fits, inside_fits, presented_fits, confirmation_fits, key_fits_lem}
use Rattle.sending.specs.declared.Prepared.{Prepared}
use Rattle.sending.proofs.Promises.{send_once, nothing_planned}
use Rattle.sending.specs.Send.{AllWrites, Plannable, PlanFor, send_of}
use Rattle.decisions.specs.declared.Sends.{Sends}
use Rattle.decisions.specs.declared.Sends.TheVariants.{Request, Issue, Presented, Confirmation, Key}
use Rattle.decisions.specs.declared.Sends.TheVariants as sending
use Rattle.decisions.specs.Effects.{messages_of}
use Rattle.deciding.specs.declared.plan.Roots.{Roots}
use Rattle.deciding.specs.Layout.{roots_of, draft_of, CanSend}

-- what the code plans: the messages of two nodes
abbrev both : List ℕ → List Node → (first last : ℕ) → List Message
both ts draft first last = draft_message (message_at ts) draft first ∷ draft_message (message_at ts) draft last ∷ []

-- ---- a draft says what is sent

module _ (ts : List ℕ) (count : ℕ) where
  record Says (ms : List Message) (draft : List Node) (first last : ℕ) : Type 0 where
    can : Plannable ts count draft first last
    same : (ws : List ℕ) → send_of ts ws count (both ts draft first last) ≡ send_of ts ws count ms

  abbrev Laid : Sends → Option Roots → Type 0
  Laid x (Some r) = Says (messages_of ts x) (draft_of x) r.first r.last
  Laid x None = messages_of ts x ≡ []

  module _ {x : Sends} (s : CanSend ts count x) {draft : List Node} (fits : draft_fits s.n count draft ≡ true) where
    plannable : (first last : ℕ) → first < 16 → last < 16 → Plannable ts count draft first last
    plannable first last f l = record { n = s.n; small = s.small; table = s.table; fits = fits; first_node = f; last_node = l }

    -- one message is sent by naming its node twice
    one : (root : ℕ) → root < 16 → (m : Message) → AllWrites s.n (m ∷ []) → draft_message (message_at ts) draft root ≡ m → Says (m ∷ []) draft root root
    one root below m writes stands =
        record {
          can = plannable root root below below;
          same = λ ws. ap (λ (x : Message). send_of ts ws count (x ∷ x ∷ [])) stands ∙ send_once s.table ws s.small m writes.0;
        }

  in_draft : {f : Form} {a ta k x : ℕ} (s : CanSend ts count (Presented f a ta k x)) → Writes s.n (authenticator a ta k)
      → draft_fits s.n count (presented_draft a ta k x) ≡ true
  in_draft {a = a} {ta} {k} {x} s w = presented_fits s.n count a ta k x w.0.0 (omega (arith, w.0.1)) w.1 s.carries

  -- step 3, by the form
  issued : (f : Form) (k a b t n : ℕ) → CanSend ts count (Issue f k a b t n) → Laid (Issue f k a b t n) (roots_of (Issue f k a b t n))
  issued Parallel k a b t n s =
      let w = s.writes.0 in
      let fits = issue_fits s.n count k a b t n w.0.0 w.1 w.0.1.0 (omega (arith, w.0.1.1.0)) w.0.1.1.1 in
      record {
        can = plannable s fits REPLY_ROOT TICKET_ROOT (omega arith) (omega arith);
        same = λ ws. ap₂ (λ (x y : Message). send_of ts ws count (x ∷ y ∷ [])) (reply_at (message_at ts) k a b t n) (ticket_at (message_at ts) k a b t n);
      }
  issued Kerberos5 k a b t n s =
      let w = s.writes.0.0 in
      let fits = issue_fits s.n count k a b t n w.0.0 w.1 w.0.1.0 (omega (arith, w.0.1.1.0)) w.0.1.1.1 in
      one s fits BESIDE_ROOT (omega arith) _ s.writes (beside_at (message_at ts) k a b t n)
  issued Kerberos4 k a b t n s =
      let w = s.writes.0 in
      let fits = inside_fits s.n count k a b t n w.0.0 w.1 w.0.1.0 (omega (arith, w.0.1.1.0)) w.0.1.1.1.0 in
      one s fits INSIDE_ROOT (omega arith) _ s.writes (inside_at (message_at ts) k a b t n)

  -- step 4, by the form: in each the authenticator {a, Ta}K is in range
  handed : (f : Form) (a ta k x : ℕ) → CanSend ts count (Presented f a ta k x) → Laid (Presented f a ta k x) (roots_of (Presented f a ta k x))
  handed Parallel a ta k x s = one s (in_draft s s.writes.0) AUTHENTICATOR_ROOT (omega arith) _ s.writes (authenticator_at (message_at ts) a ta k x)
  handed Kerberos5 a ta k x s = one s (in_draft s s.writes.0.1) PRESENTED_ROOT (omega arith) _ s.writes (presented_at (message_at ts) a ta k x)
  handed Kerberos4 a ta k x s = one s (in_draft s s.writes.0.1) PRESENTED_ROOT (omega arith) _ s.writes (presented_at (message_at ts) a ta k x)

  laid_out : (x : Sends) → CanSend ts count x → Laid x (roots_of x)
  laid_out sending.Nothing s = refl
  laid_out (Request a b n) s =
      let w = s.writes.0 in
      one s (request_fits s.n count a b n w.0 w.1.0 w.1.1) REQUEST_ROOT (omega arith) _ s.writes (request_at (message_at ts) a b n)
  laid_out (Issue f k a b t n) s = issued f k a b t n s
  laid_out (Presented f a ta k x) s = handed f a ta k x s
  laid_out (Confirmation ta k) s =
      let w = s.writes.0 in
      one s (confirmation_fits s.n count ta k (omega (arith, w.0)) w.1) CONFIRMATION_ROOT (omega arith) _ s.writes (confirmation_at (message_at ts) ta k)
  laid_out (Key k) s = one s (key_fits_lem s.n count k s.writes.0) KEY_ROOT (omega arith) _ s.writes (key_at (message_at ts) k)

-- ---- once the roots are known

module _ {ts : List ℕ} {count : ℕ} {x : Sends} (s : CanSend ts count x) where
  pub none_planned : roots_of x ≡ None → {words : List ℕ} → length words ≡ 32 → PlanFor ts count (messages_of ts x) words (record { count = 0; marks = None })
  none_planned h places =
      let none : messages_of ts x ≡ [] = subst (Laid ts count x) h (laid_out ts count x s) in
      rw none (nothing_planned ts count s.table.size s.table.room places)

  module _ {r : Roots} (h : roots_of x ≡ Some r) {draft : List Node} (laid : draft ≡ draft_of x) where
    says : Says ts count (messages_of ts x) (draft_of x) r.first r.last
    says = subst (Laid ts count x) h (laid_out ts count x s)

    pub draft_plannable : Plannable ts count draft r.first r.last
    draft_plannable = subst (λ (d : List Node). Plannable ts count d r.first r.last) (sym laid) says.can

    pub draft_planned : {words : List ℕ} {p : Prepared} → PlanFor ts count (both ts draft r.first r.last) words p → PlanFor ts count (messages_of ts x) words p
    draft_planned p =
        record {
          places = p.places;
          few = p.few;
          marks = p.marks;
          sends = λ ws. p.sends ws ∙ ap (λ (d : List Node). send_of ts ws count (both ts d r.first r.last)) laid ∙ says.same ws;
        }
