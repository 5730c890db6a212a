-- What the intruder can build (document 01, "Terms"): the least set of messages, by one constructor for each clause of
-- the paper's sentence. It runs no search and knows nothing of tables. "Can be built" is `Derives` here.
-- Assumes nothing.
use Rattle.std.specs.Prelude.{ℕ, ◌^◌, ◌<◌, ◌≤◌, ◌≡◌}
use Rattle.marks.specs.Bits.{bit}
use Rattle.terms.specs.Message.{Key, long_term, session, Message, principal, time, nonce, key, pair, encrypted}

-- "64 to 95 are the intruder's own"
pub record Own (i : ℕ) : Type 0 where
  pub low : 64 ≤ i
  pub high : i ≤ 95

-- "bit p set marks party p bad", in a realm of n principals
pub record Bad (n flags p : ℕ) : Type 0 where
  pub present : p < n
  pub flagged : bit flags p ≡ 1

-- "The intruder can build the least set that holds"
pub data Derives (n flags : ℕ) (Wire : Message → Type 0) : Message → Type 0 where
  -- "the terms on the wire,"
  on_wire : {m : Message} → Wire m → Derives n flags Wire m
  -- "all parties and times,"
  a_principal : {p : ℕ} → p < n → Derives n flags Wire (principal p)
  a_time : {t : ℕ} → t < 2 ^ 32 → Derives n flags Wire (time t)
  -- "the bad parties' long-term keys,"
  bad_key : {p : ℕ} → Bad n flags p → Derives n flags Wire (key (long_term p))
  -- "nonces and session keys 64 to 95, and that is closed under:"
  own_nonce : {i : ℕ} → Own i → Derives n flags Wire (nonce i)
  own_key : {i : ℕ} → Own i → Derives n flags Wire (key (session i))
  -- "both halves of a pair;"
  left : {a b : Message} → Derives n flags Wire (pair a b) → Derives n flags Wire a
  right : {a b : Message} → Derives n flags Wire (pair a b) → Derives n flags Wire b
  -- "the body of a lock whose key is in the set;"
  decrypt : {m : Message} {k : Key} → Derives n flags Wire (encrypted m k) → Derives n flags Wire (key k) → Derives n flags Wire m
  -- "the pair of two members;"
  join : {a b : Message} → Derives n flags Wire a → Derives n flags Wire b → Derives n flags Wire (pair a b)
  -- "a member locked under a member key."
  encrypt : {m : Message} {k : Key} → Derives n flags Wire m → Derives n flags Wire (key k) → Derives n flags Wire (encrypted m k)
