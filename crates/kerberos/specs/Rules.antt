-- The rules of the exchange: what each accepted call does and sends, one constructor for each row of the paper's step table, its
-- fields that are not used being 0. Each says what must hold at that point of the list: the form of m, that the intruder can
-- deliver it, the lives, the replay cache, and room in the tables. Only steps 3 and 4 look at the form f, and only for the
-- messages. When a call is refused, and with what number, is not said.
-- Assumes nothing.
use Rattle.std.specs.Prelude.{ℕ, ◌+◌, ◌≤◌, ◌<◌, ◌≡◌, List, [], ◌∷◌, length}
use Rattle.std.proofs.Math.Option.{some}
use Rattle.terms.specs.Message.{session, Message, key, pair}
use Rattle.messages.specs.Listed.{insert}
use Rattle.exchange.specs.declared.call.Call.{Call}
use Rattle.exchange.specs.declared.call.Call.TheVariants.{Term, Step}
use Rattle.traces.specs.Realm.{Realm}
use Rattle.traces.specs.Lists.{◌∈◌}
use Rattle.traces.specs.Terms.{message_from, FieldsFit, TermsFit}
use Rattle.traces.specs.Conditions.{Delivers, Apart, OwnNonce}
use Rattle.traces.specs.RuleSets.{entry}
use Rattle.exchange.specs.declared.form.Form.{Form}
use Rattle.kerberos.specs.Messages.{request, ticket, authenticator, confirmation, issue, grant, presented}
use Rattle.kerberos.specs.Log.{Initiate, Respond, Issue, Authenticate, Accept, Finish, Tick, Purge, Leak, Act, idle, Log}
use Rattle.kerberos.specs.Log.{clock, run, next, initiator_opened, initiator_authenticated, responder_opened, server_done, cache}

-- not "clock is at or above Ts + Ls"
abbrev pub TicketLives : Realm → Log → (ts : ℕ) → Type 0
TicketLives R l ts = clock l < ts + R.ticket_life

-- not "clock is at or above Ta + La"
abbrev pub AuthenticatorLives : Realm → Log → (ta : ℕ) → Type 0
AuthenticatorLives R l ta = clock l < ta + R.auth_life

-- not "a Ta above clock + La" (02, change 5)
abbrev pub NotAhead : Realm → Log → (ta : ℕ) → Type 0
NotAhead R l ta = ta ≤ clock l + R.auth_life

-- "At most 64 runs"
abbrev pub RunFits : Log → Type 0
RunFits l = next l < 64

-- "16 entries with a count"
abbrev pub CacheFits : Realm → Log → Type 0
CacheFits R l = length (cache R l) < 16

pub data Takes (f : Form) (R : Realm) (terms : List Message) (l : Log) : Call → Act → Type 0 where
  -- TM: "adding a term", the one that kind, L and R make in this table
  takes_term : {kind x y : ℕ} {m : Message}
      → FieldsFit R.n kind x y
      → message_from terms kind x y ≡ some m
      → length (insert m terms) ≤ 512
      → Takes f R terms l (Term kind x y) idle
  -- "1 | a, b | opens an initiator run r; sends [a, b, nonce r]"
  takes1 : {a b : ℕ}
      → (a < R.n) × (b < R.n)
      → Apart a b
      → RunFits l
      → TermsFit (request a b (next l) ∷ []) terms
      → Takes f R terms l (Step 1 0 a b 0 0) (Initiate (next l) a b, request a b (next l) ∷ [])
  -- "2 | a, b | opens a responder run of b for a"
  takes2 : {a b : ℕ}
      → (a < R.n) × (b < R.n)
      → Apart a b
      → RunFits l
      → Takes f R terms l (Step 2 0 a b 0 0) (Respond (next l) a b, [])
  -- "3 | m | m is [a, b, any nonce N], a and b unequal and not 0; opens server run r; K is session key r, Ts the clock; sends
  -- {K, b, Ts, N} under a's key, then {K, a, Ts} under b's key", or under H5 and H4 both in one message
  takes3 : {m a b n : ℕ}
      → Delivers R terms l m (request a b n)
      → Apart a b
      → RunFits l
      → TermsFit (issue f (next l) a b (clock l) n) terms
      → Takes f R terms l (Step 3 0 0 0 m 0) (Issue (next l) a b (clock l) n, issue f (next l) a b (clock l) n)
  -- "4 | run, m | m is {K, b, Ts, own nonce} under a's key; Ta becomes the clock; sends {a, Ta}K"; under H5 and H4 it takes "any
  -- term X" with that and sends "the pair of X and {a, Ta}K"
  takes4 : {r m a b k ts n : ℕ} (x : Message)
      → run l r ≡ some (initiator_opened a b)
      → Delivers R terms l m (grant f k b ts n a x)
      → OwnNonce r n
      → TicketLives R l ts
      → TermsFit (presented f a (clock l) k x) terms
      → Takes f R terms l (Step 4 r 0 0 m 0) (Authenticate r a b k ts (clock l), presented f a (clock l) k x)
  -- "5 | run, m | m is the pair of {K, a, Ts} under b's key and {a, Ta}K; remembers b, K, Ta; sends {Ta}K"
  takes5 : {r m a b k ts ta : ℕ}
      → run l r ≡ some (responder_opened a b)
      → Delivers R terms l m (pair (ticket k a ts b) (authenticator a ta k))
      → TicketLives R l ts
      → AuthenticatorLives R l ta
      → NotAhead R l ta
      → ¬ (entry b k ta ∈ cache R l)
      → CacheFits R l
      → TermsFit (confirmation ta k ∷ []) terms
      → Takes f R terms l (Step 5 r 0 0 m 0) (Accept r a b k ts ta, confirmation ta k ∷ [])
  -- "6 | run, m | m is {Ta}K with the run's own values; the run is done"
  takes6 : {r m a b k ts ta : ℕ}
      → run l r ≡ some (initiator_authenticated a b k ts ta)
      → Delivers R terms l m (confirmation ta k)
      → TicketLives R l ts
      → Takes f R terms l (Step 6 r 0 0 m 0) (Finish r a b k ts ta, [])
  -- "7 | t | clock becomes t"
  takes7 : {t : ℕ} → clock l ≤ t → Takes f R terms l (Step 7 0 0 0 0 t) (Tick t, [])
  -- "8 | b | forgets b's entries whose Ta + La is at or below the clock; the rest keep their order"
  takes8 : {b : ℕ} → b < R.n → Takes f R terms l (Step 8 0 0 b 0 0) (Purge b, [])
  -- "9 | run | leaks a server run's key onto the wire; leaking it again changes nothing"
  takes9 : {r a b k ts n : ℕ} → run l r ≡ some (server_done a b k ts n) → Takes f R terms l (Step 9 r 0 0 0 0) (Leak r, key (session r) ∷ [])
  -- "10 | m | accepted if the intruder can build m; changes nothing"
  takes10 : {m : ℕ} {x : Message} → Delivers R terms l m x → Takes f R terms l (Step 10 0 0 0 m 0) idle
