-- The encryptions that runs made, on the wire or inside another message, and who made them; which events leak and issue keys. A
-- step may send on what it did not make, so what was made is read from the events and not from the wire.
-- Assumes nothing.
use Rattle.std.specs.Prelude.{ℕ}
use Rattle.terms.specs.Message.{Message, nonce, pair}
use Rattle.traces.specs.Logs.{Did}
use Rattle.traces.specs.Origins as theory
use Rattle.traces.specs.Origins.{Origins, by}
use Rattle.exchange.specs.declared.form.Form.{Form}
use Rattle.exchange.specs.declared.form.Form.TheVariants.{Parallel, Kerberos5, Kerberos4}
use Rattle.kerberos.specs.Messages.{reply, ticket, authenticator, confirmation}
use Rattle.kerberos.specs.Log.{Event, Issue, Authenticate, Accept, Leak, Log}

-- the rest of a reply by the form: N, and under H4 N with what stands in the ticket's place
abbrev pub tail : Form → (n : ℕ) → (x : Message) → Message
tail Parallel n x = nonce n
tail Kerberos5 n x = nonce n
tail Kerberos4 n x = pair (nonce n) x

-- The server makes the ticket under H4 too, though it sends it only inside the reply.
pub data Makes (f : Form) : Event → Message → Type 0 where
  makes_reply : {r a b ts n : ℕ} → Makes f (Issue r a b ts n) (reply r b ts (tail f n (ticket r a ts b)) a)
  makes_ticket : {r a b ts n : ℕ} → Makes f (Issue r a b ts n) (ticket r a ts b)
  makes_authenticator : {r a b k ts ta : ℕ} → Makes f (Authenticate r a b k ts ta) (authenticator a ta k)
  makes_confirmation : {r a b k ts ta : ℕ} → Makes f (Accept r a b k ts ta) (confirmation ta k)

pub data Leaks : Event → ℕ → Type 0 where
  leaks9 : {r : ℕ} → Leaks (Leak r) r

pub data Issues : Event → (k a b : ℕ) → Type 0 where
  issues3 : {r a b ts n : ℕ} → Issues (Issue r a b ts n) r a b

abbrev pub origins : Form → Origins Event
origins f = record { Makes = Makes f; Leaks = Leaks; Issues = Issues }

abbrev pub Made : Form → Log → Message → Type 0
Made f l m = theory.Made (origins f) l m

-- ---- who made it

pub made_authenticator : {f : Form} {l : Log} {a ta k : ℕ} → Made f l (authenticator a ta k) → (r : ℕ) × (b : ℕ) × (ts : ℕ) × Did l (Authenticate r a b k ts ta)
made_authenticator (by i makes_authenticator) = (_, _, _, i)
