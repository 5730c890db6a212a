-- The form of the message that step 4 takes (document 01, "Steps"; 02, change 6), by the form of the exchange: the server's reply, a
-- chain of layers in the order in which the code takes it apart, and "any term X", which is left as it is. Values that the step
-- compares with its run's own are answered as they are.
-- Assumes nothing.
use Rattle.std.specs.Prelude.{ℕ, ◌<◌, ◌≤◌, List, ◌≡◌, Option, None, Some, option_and_then, option_map}
use Rattle.terms.specs.Meaning.{message_at}
use Rattle.terms.specs.Message.{Message}
use Rattle.exchange.specs.declared.form.Form.{Form}
use Rattle.exchange.specs.declared.form.Form.TheVariants.{Parallel, Kerberos5, Kerberos4}
use Rattle.layers.specs.Layers.{PRINCIPAL, TIME, NONCE, LONG_TERM_KEY, SESSION_KEY, PAIR, of_kind, operands, atom, first, under, ◌▸◌}
use Rattle.layers.specs.Present.{Present}
use Rattle.forms.specs.declared.Reply.{Reply}
use Rattle.forms.specs.declared.Grant.{Grant}

-- "{K, b, Ts, ..} under a's key", and what is left behind Ts
abbrev pub reply_form : Message → Option (ℕ × (ℕ × (ℕ × (ℕ × Message))))
reply_form = under LONG_TERM_KEY ▸ first SESSION_KEY ▸ first PRINCIPAL ▸ first TIME

-- what is read of a message that step 4 takes
pub record Granted : Type 0 where
  pub k : ℕ
  pub b : ℕ
  pub ts : ℕ
  pub n : ℕ
  pub a : ℕ
  pub x : Message

-- what is left is N, and X stands elsewhere
abbrev pub alone : (x : Message) → Message → Option (ℕ × Message)
alone x rest = option_map (λ n. (n, x)) (atom NONCE rest)

-- a reply, and N and X
abbrev pub granted_of : (a k b ts : ℕ) → ℕ × Message → Granted
granted_of a k b ts p = record { k = k; b = b; ts = ts; n = p.0; a = a; x = p.1 }

-- a reply, and what s reads as N and X of what is left
abbrev pub grant_of : Option (ℕ × (ℕ × (ℕ × (ℕ × Message)))) → (Message → Option (ℕ × Message)) → Option Granted
grant_of None s = None
grant_of (Some (a, (k, (b, (ts, rest))))) s = option_map (granted_of a k b ts) (s rest)

-- H5: "a pair of the panel's part and any term X"
abbrev pub pair_in : Message → Option Granted
pair_in m = option_and_then (λ p. grant_of (reply_form p.0) (alone p.1)) (of_kind PAIR operands m)

-- HD and HW: "m is {K, b, Ts, own nonce} under a's key", which itself stands for X where there is none; H4: "any X from the last
-- place of that part"
unfoldable pub grant_in : Form → Message → Option Granted
grant_in Parallel m = grant_of (reply_form m) (alone m)
grant_in Kerberos5 m = pair_in m
grant_in Kerberos4 m = grant_of (reply_form m) (first NONCE)

-- ---- what an answer says of the term's message

-- the same values, and what is left is an earlier term that stands for the message left
abbrev pub Replies : List ℕ → (m : ℕ) → Option Reply → Option (ℕ × (ℕ × (ℕ × (ℕ × Message)))) → Type 0
Replies terms m None o = o ≡ None
Replies terms m (Some r) o = (o ≡ Some (r.a, (r.k, (r.b, (r.ts, message_at terms r.rest))))) × Present terms r.rest × (r.rest < m)

-- the same values, and x is the number of a term that stands for X, at most `last`: so it is present where `last` is
abbrev pub Grants : List ℕ → (last : ℕ) → Option Grant → Option Granted → Type 0
Grants terms last None g = g ≡ None
Grants terms last (Some r) g =
    (g ≡ Some (record { k = r.k; b = r.b; ts = r.ts; n = r.n; a = r.a; x = message_at terms r.x })) × (r.x ≤ last)
