-- What follows from the definitions of the same name in specs/.
-- Assumes nothing.
use Rattle.std.specs.Prelude.{ℕ, ◌^◌, ◌<◌, ◌≤◌, ◌≡◌, refl}
use mathlib.Core.List.{List, Memᴰ}
use Rattle.std.proofs.Common.{sym, subst}
use Rattle.drafts.specs.Writes.{Writes}
use Rattle.terms.specs.Meaning.{message_at}
use Rattle.terms.specs.Message.{Message}
use Rattle.terms.specs.Valid.{Valid}
use Rattle.sending.specs.Send.{AllWrites}
use Rattle.exchange.specs.declared.form.Form.{Form}
use Rattle.exchange.specs.declared.form.Form.TheVariants.{Parallel, Kerberos5, Kerberos4}
use Rattle.kerberos.specs.Messages.{issue, grant, presented}
use Rattle.kerberos.specs.Reading.{parts}
use Rattle.messages.specs.Parts.{Part, itself, in_left, in_right, in_body}
use Rattle.messages.proofs.Parts.{StandsBy, part_stands}
use Rattle.decisions.specs.Laws.Forms.{SendsKey}

pub issue_shows : (f : Form) (k a b ts n : ℕ) → SendsKey k (issue f k a b ts n)
issue_shows Parallel k a b ts n = record { message = _; part = in_body (in_left itself); among = Memᴰ.head refl }
issue_shows Kerberos5 k a b ts n = record { message = _; part = in_left (in_body (in_left itself)); among = Memᴰ.head refl }
issue_shows Kerberos4 k a b ts n = record { message = _; part = in_body (in_left itself); among = Memᴰ.head refl }

module _ (n : ℕ) where
  pub issue_writes : (f : Form) {k a b ts i : ℕ} → k ≤ 95 → a < n → b < n → ts < 2 ^ 32 → i ≤ 95 → AllWrites n (issue f k a b ts i)
  issue_writes Parallel h p q t r = (((h, (q, (t, r))), p), (((h, (p, t)), q), tt))
  issue_writes Kerberos5 h p q t r = ((((h, (q, (t, r))), p), ((h, (p, t)), q)), tt)
  issue_writes Kerberos4 h p q t r = (((h, (q, (t, (r, ((h, (p, t)), q))))), p), tt)

  -- the session key of a grant
  pub grant_key : (f : Form) (k b ts i a : ℕ) (x : Message) → Writes n (grant f k b ts i a x) → k ≤ 95
  grant_key Parallel k b ts i a x w = w.0.0
  grant_key Kerberos5 k b ts i a x w = w.0.0.0
  grant_key Kerberos4 k b ts i a x w = w.0.0

  pub presented_writes : (f : Form) {a ta k : ℕ} (x : Message) → a < n → ta < 2 ^ 32 → k ≤ 95 → Writes n x → AllWrites n (presented f a ta k x)
  presented_writes Parallel x p t h w = (((p, t), h), tt)
  presented_writes Kerberos5 x p t h w = ((w, ((p, t), h)), tt)
  presented_writes Kerberos4 x p t h w = ((w, ((p, t), h)), tt)

-- ---- the X of a grant

carried : (f : Form) (m : Message) (k b ts n a : ℕ) (x : Message) → m ≡ grant f k b ts n a x → x ≡ (parts f m).1 → Part x m
carried Parallel m k b ts n a x e is = subst (Part x) is itself
carried Kerberos5 m k b ts n a x e is = subst (Part x) (sym e) (in_right itself)
carried Kerberos4 m k b ts n a x e is = subst (Part x) (sym e) (in_body (in_right (in_right (in_right (in_right itself)))))

-- so it stands in the table
pub x_stands : {n : ℕ} {terms : List ℕ} {count : ℕ} → Valid n terms count → (f : Form) (m : ℕ) → m < count → (k b ts i a : ℕ) (x : Message)
    → message_at terms m ≡ grant f k b ts i a x → x ≡ (parts f (message_at terms m)).1 → StandsBy terms m x
x_stands {terms = terms} v f m h k b ts i a x e is = part_stands v.terms (carried f (message_at terms m) k b ts i a x e is) m h refl
