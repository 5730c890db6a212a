-- All that is argued for each form singly: who made a reply; what step 3 sends is guarded if its parts are; what step 4 sends is
-- guarded if what it took is, the unopened term X among it; the reply stands in what step 4 took, and X is read from it.
-- Assumes nothing.
use Rattle.std.specs.Prelude.{ℕ, ◌≡◌, refl}
use Rattle.terms.specs.Message.{long_term, Message}
use Rattle.deduction.specs.Derives.{left}
use Rattle.traces.specs.Realm.{Realm}
use Rattle.traces.specs.Conditions.{Derivable}
use Rattle.traces.specs.Lists.{◌∈◌, here, there}
use Rattle.traces.specs.Logs.{Did}
use Rattle.traces.specs.Origins as theory
use Rattle.traces.specs.Origins.{by}
use Rattle.traces.specs.Secrets.{Secret}
use Rattle.traces.proofs.Secrets.{inside}
use Rattle.exchange.specs.declared.form.Form.{Form}
use Rattle.exchange.specs.declared.form.Form.TheVariants.{Parallel, Kerberos5, Kerberos4}
use Rattle.kerberos.specs.Messages.{reply, ticket, authenticator, issue, grant, presented}
use Rattle.kerberos.specs.Log.{Issue, Authenticate, Log, stored, initiator_opened}
use Rattle.kerberos.specs.Reading.{parts, read4}
use Rattle.kerberos.proofs.Laws.Made.{tail, Made, makes_reply, makes_ticket, origins}

-- ---- who made it

pub made_ticket : (f : Form) {l : Log} {k a ts b : ℕ} → Made f l (ticket k a ts b) → (n : ℕ) × Did l (Issue k a b ts n)
made_ticket f (by i makes_ticket) = (_, i)

pub made_reply : (f : Form) {l : Log} {k b ts a : ℕ} (n : ℕ) (x : Message) → Made f l (reply k b ts (tail f n x) a) → Did l (Issue k a b ts n)
made_reply Parallel n x (by i makes_reply) = i
made_reply Kerberos5 n x (by i makes_reply) = i
made_reply Kerberos4 n x (by i makes_reply) = i

-- ---- what is sent is guarded

module _ (R : Realm) (X : ℕ → Type 0) (l : Log) where
  abbrev Fine : Form → Message → Type 0
  Fine f m = theory.Fine (origins f) R l X m

  -- the rest of a reply, if the ticket is,
  pub tail_fine : (f : Form) (n : ℕ) (x : Message) → Fine f x → Fine f (tail f n x)
  tail_fine Parallel n x h = tt
  tail_fine Kerberos5 n x h = tt
  tail_fine Kerberos4 n x h = (tt, h)

  -- what step 3 sends,
  pub issue_fine : (f : Form) (k a b ts n : ℕ) {m : Message} → Fine f (reply k b ts (tail f n (ticket k a ts b)) a) → Fine f (ticket k a ts b)
      → m ∈ issue f k a b ts n
      → Fine f m
  issue_fine Parallel k a b ts n p t here = p
  issue_fine Parallel k a b ts n p t (there (there x13)) = elim x13 [ ]
  issue_fine Kerberos5 k a b ts n p t (there x9) = elim x9 [ ]
  issue_fine Kerberos4 k a b ts n p t (there x10) = elim x10 [ ]
  issue_fine Parallel k a b ts n p t (there here) = t
  issue_fine Kerberos5 k a b ts n p t here = (p, t)
  issue_fine Kerberos4 k a b ts n p t here = p

  -- and what step 4 sends: X stood open beside the reply, or inside it; there it is the ticket if the server made the reply.
  abbrev Tickets : Form → Type 0
  Tickets f = (k a b ts n : ℕ) → Did l (Issue k a b ts n) → Fine f (ticket k a ts b)

  inside_made : (k b ts n a : ℕ) (x : Message) → Tickets Kerberos4 → Made Kerberos4 l (reply k b ts (tail Kerberos4 n x) a) → Fine Kerberos4 x
  inside_made k b ts n a x tickets (by i makes_reply) = tickets k a b ts n i

  pub presented_fine : (f : Form) (a b k ts n ta : ℕ) (x : Message) {m : Message} → Tickets f → Fine f (grant f k b ts n a x) → Fine f (authenticator a ta k)
      → m ∈ presented f a ta k x
      → Fine f m
  presented_fine Parallel a b k ts n ta x tickets g h (there x11) = elim x11 [ ]
  presented_fine Kerberos5 a b k ts n ta x tickets g h (there x12) = elim x12 [ ]
  presented_fine Kerberos4 a b k ts n ta x tickets g h (there x13) = elim x13 [ ]
  presented_fine Parallel a b k ts n ta x tickets g h here = h
  presented_fine Kerberos5 a b k ts n ta x tickets g h here = (g.1, h)
  presented_fine Kerberos4 a b k ts n ta x tickets g h here =
      (inside (Secret R X) (Made Kerberos4 l) _ (long_term a) (inside_made k b ts n a x tickets) (λ body. body.1.1.1.1) g, h)

-- ---- what step 4 took

pub grant_reply : (f : Form) (R : Realm) {l : Log} (k b ts n a : ℕ) (x : Message) → Derivable R l (grant f k b ts n a x) → Derivable R l (reply k b ts (tail f n x) a)
grant_reply Parallel R k b ts n a x d = d
grant_reply Kerberos5 R k b ts n a x d = left d
grant_reply Kerberos4 R k b ts n a x d = d

-- it is read as what step 4 took, whatever X is,
pub read_grant : (f : Form) (r ta a b k ts n : ℕ) (x : Message)
    → read4 f r ta (stored (initiator_opened a b)) (grant f k b ts n a x) ≡ (Authenticate r a b k ts ta, presented f a ta k x)
read_grant Parallel r ta a b k ts n x = refl
read_grant Kerberos5 r ta a b k ts n x = refl
read_grant Kerberos4 r ta a b k ts n x = refl

-- and the X that is read is as good as any that makes it.
pub regrant : (f : Form) (m : Message) (k b ts n a : ℕ) (x : Message) → m ≡ grant f k b ts n a x
    → (m ≡ grant f k b ts n a (parts f m).1) × ((a' ta : ℕ) → presented f a' ta k (parts f m).1 ≡ presented f a' ta k x)
regrant Parallel m k b ts n a x e = (e, λ a' ta. refl)
regrant Kerberos5 m k b ts n a x e = rw e (refl, λ a' ta. refl)
regrant Kerberos4 m k b ts n a x e = rw e (refl, λ a' ta. refl)
