-- The words of demand 3 (document 01, "The list behind demand 3"), each over the log at a point of the list. A word says that
-- an event is in the log, so what is so at one point is so at every later one.
-- Assumes nothing.
use Rattle.std.specs.Prelude.{ℕ, List, ◌∷◌}
use Rattle.terms.specs.Message.{Message}
use Rattle.traces.specs.Logs.{Did}
use Rattle.kerberos.specs.Log.{Initiate, Respond, Issue, Authenticate, Accept, Leak, Log}

-- "An initiator run is of the a of its step 1 and meant for that b."
abbrev pub Initiator : Log → (r a b : ℕ) → Type 0
Initiator l r a b = Did l (Initiate r a b)

-- "A responder run is of the b of its step 2 and opened for that a."
abbrev pub Responder : Log → (r a b : ℕ) → Type 0
Responder l r a b = Did l (Respond r a b)

-- r is a run of the principal p. "A server run is of party 0."
pub data RunOf (l : Log) (r : ℕ) : ℕ → Type 0 where
  of_initiator : {a b : ℕ} → Did l (Initiate r a b) → RunOf l r a
  of_responder : {a b : ℕ} → Did l (Respond r a b) → RunOf l r b
  of_server : {a b ts n : ℕ} → Did l (Issue r a b ts n) → RunOf l r 0

-- "A run has, or holds, K and Ts from its accepted step 3, 4 or 5 on: made at 3, read from m at 4 and 5. Ta is the clock at 4
-- and read from m at 5; a server run has none." All three:
pub data Has (l : Log) (r k ts ta : ℕ) : Type 0 where
  from4 : {a b : ℕ} → Did l (Authenticate r a b k ts ta) → Has l r k ts ta
  from5 : {a b : ℕ} → Did l (Accept r a b k ts ta) → Has l r k ts ta

-- and the key:
pub data Holds (l : Log) (r : ℕ) : ℕ → Type 0 where
  from3 : {a b ts n : ℕ} → Did l (Issue r a b ts n) → Holds l r r
  has : {k ts ta : ℕ} → Has l r k ts ta → Holds l r k

-- "A run of B accepts A at its accepted step 5, if it was opened for A": at the point right after that step
pub data Accepts : Log → (r a b k ts ta : ℕ) → Type 0 where
  accepts5 : {l : Log} {ms : List Message} {r a b k ts ta : ℕ} → Accepts ((Accept r a b k ts ta, ms) ∷ l) r a b k ts ta

-- "A server's key is the session key with the number of an opened server run."
pub data ServersKey (l : Log) (k : ℕ) : Type 0 where
  opened3 : {a b ts n : ℕ} → Did l (Issue k a b ts n) → ServersKey l k

-- "It has leaked from the first accepted step 9 that names that run; nothing else counts as a leak."
abbrev pub Leaked : Log → ℕ → Type 0
Leaked l k = Did l (Leak k)
