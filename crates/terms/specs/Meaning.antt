-- The message that a term of a table stands for. `message_at` is the reading, and `message_at_lem` the equation by which
-- everybody uses it.
-- Assumes nothing.
use Rattle.std.specs.Prelude.{List, ℕ, ◌<◌}
use Rattle.words.specs.declared.Term.{Term}
use Rattle.words.specs.declared.Term.TheVariants.{Principal, Time, Nonce, LongTermKey, SessionKey, Pair, Encrypted, Unknown}
use Rattle.terms.specs.Descend.{descend}
use Rattle.terms.specs.Message.{Key, long_term, session, Message, principal, time, nonce, key, pair, encrypted}
use Rattle.terms.specs.Operands.{by_operands}
use Rattle.terms.specs.Rules.{term_at}

-- ---- definitions

-- the key that a message is; the rules let no other message stand as a key
abbrev pub key_of : Message → Key
key_of (principal p) = long_term p
key_of (time t) = long_term t
key_of (nonce i) = long_term i
key_of (key k) = k
key_of (pair a b) = long_term 0
key_of (encrypted m k) = k

-- a term's message, given those of its operands
abbrev pub message_of : (ℕ → Message) → Term → Message
message_of sub (Principal p) = principal p
message_of sub (Time t) = time t
message_of sub (Nonce i) = nonce i
message_of sub (LongTermKey p) = key (long_term p)
message_of sub (SessionKey i) = key (session i)
message_of sub (Pair l r) = pair (sub l) (sub r)
message_of sub (Encrypted b k) = encrypted (sub b) (key_of (sub k))
message_of sub Unknown = principal 0

-- the message of term i of a table; its operands are earlier terms
abbrev pub read_term : List ℕ → ℕ → (ℕ → Message) → Message
read_term ts i sub = message_of sub (term_at ts i)

unfoldable pub message_at : List ℕ → ℕ → Message
message_at ts = descend (principal 0) (read_term ts)

-- ---- operands are earlier terms

-- operands are below m
abbrev pub Under : ℕ → Term → Type 0
Under m = by_operands (Unit {0}) (λ l r. (l < m) × (r < m)) (λ b k. (b < m) × (k < m))
