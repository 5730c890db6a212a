-- Which messages can be written in a realm of n principals: those whose fields are in range. Every message of a table that
-- keeps the rules is one, and every message of a draft that fits.
-- Assumes nothing.
use Rattle.std.specs.Prelude.{ℕ, ◌^◌, ◌<◌, ◌≤◌}
use Rattle.terms.specs.Message.{Key, long_term, session, Message, principal, time, nonce, key, pair, encrypted}

-- ---- definitions

-- the fields of a message are those that the rules let pass, in a realm of n principals
abbrev pub KeyFits : ℕ → Key → Type 0
KeyFits n (long_term p) = p < n
KeyFits n (session i) = i ≤ 95

abbrev pub Writes : ℕ → Message → Type 0
Writes n (principal p) = p < n
Writes n (time t) = t < 2 ^ 32
Writes n (nonce i) = i ≤ 95
Writes n (key k) = KeyFits n k
Writes n (pair a b) = Writes n a × Writes n b
Writes n (encrypted m k) = Writes n m × KeyFits n k
