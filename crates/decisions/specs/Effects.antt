-- What the step table says of each step (document 01, "Steps"), as effects: a row, the cache, the messages sent, the clock, and the
-- run that the answer names. One definition for each row of the table.
-- Assumes nothing.
use Rattle.std.specs.Prelude.{ℕ, List, [], ◌∷◌, Option, Some, None}
use Rattle.terms.specs.Meaning.{message_at}
use Rattle.terms.specs.Message.{session, Message, key}
use Rattle.exchange.specs.declared.run.Role.{Role}
use Rattle.exchange.specs.declared.run.Role.TheVariants.{Initiator, Responder, Server}
use Rattle.exchange.specs.declared.run.Stage.{Stage}
use Rattle.exchange.specs.declared.run.Stage.TheVariants.{Opened, Authenticated, Done}
use Rattle.exchange.specs.declared.form.Form.{Form}
use Rattle.kerberos.specs.Messages.{request, issue, presented, confirmation}
use Rattle.decisions.specs.declared.Change.TheVariants as changes
use Rattle.decisions.specs.declared.Keeping.{Keeping}
use Rattle.decisions.specs.declared.Keeping.TheVariants.{Same, Remember, Forget}
use Rattle.decisions.specs.declared.Sends.{Sends}
use Rattle.decisions.specs.declared.Sends.TheVariants.{Request, Issue, Presented, Confirmation, Key}
use Rattle.decisions.specs.declared.Sends.TheVariants as sending
use Rattle.decisions.specs.declared.Effect.{Effect}

-- the messages, in the order of sending; a term that is passed on is one of the table's
abbrev pub messages_of : (terms : List ℕ) → Sends → List Message
messages_of terms sending.Nothing = []
messages_of terms (Request a b n) = request a b n ∷ []
messages_of terms (Issue f k a b ts n) = issue f k a b ts n
messages_of terms (Presented f a ta k x) = presented f a ta k (message_at terms x)
messages_of terms (Confirmation ta k) = confirmation ta k ∷ []
messages_of terms (Key k) = key (session k) ∷ []

-- ---- a run, r, is opened, goes on, or is left as it is

module _ (clock : ℕ) where
  abbrev pub opening : Role → Stage → (r a b k ts : ℕ) → Sends → Effect
  opening role stage r a b k ts x =
      record {
        change = changes.Open (record { role = role; stage = stage; a = a; b = b; k = k; ts = ts; ta = 0 });
        keeping = Same;
        sends = x;
        clock = clock;
        names = Some r;
      }

  abbrev pub advancing : Role → Stage → (r a b k ts ta : ℕ) → Keeping → Sends → Effect
  advancing role stage r a b k ts ta c x =
      record {
        change = changes.Set r (record { role = role; stage = stage; a = a; b = b; k = k; ts = ts; ta = ta });
        keeping = c;
        sends = x;
        clock = clock;
        names = Some r;
      }

  abbrev pub still : Keeping → Sends → Option ℕ → Effect
  still c x who = record { change = changes.Nothing; keeping = c; sends = x; clock = clock; names = who }

  -- ---- the steps

  -- "1 | opens an initiator run r; sends [a, b, nonce r]"; "one not yet taken is stored as 0"
  abbrev pub initiates : (r a b : ℕ) → Effect
  initiates r a b = opening Initiator Opened r a b 0 0 (Request a b r)

  -- "2 | opens a responder run of b for a"
  abbrev pub responds : (r a b : ℕ) → Effect
  responds r a b = opening Responder Opened r a b 0 0 sending.Nothing

  -- "3 | opens server run r; K is session key r, Ts the clock; sends {K, b, Ts, N} under a's key, then {K, a, Ts} under b's key", or
  -- what the form has in its place
  abbrev pub issuing : Form → (r a b n : ℕ) → Effect
  issuing f r a b n = opening Server Done r a b r clock (Issue f r a b clock n)

  -- "4 | Ta becomes the clock; sends {a, Ta}K", or what the form has in its place, X being term x
  abbrev pub authenticating : Form → (r a b k ts x : ℕ) → Effect
  authenticating f r a b k ts x = advancing Initiator Authenticated r a b k ts clock Same (Presented f a clock k x)

  -- "5 | remembers b, K, Ta; sends {Ta}K"
  abbrev pub accepting : (r a b k ts ta : ℕ) → Effect
  accepting r a b k ts ta = advancing Responder Done r a b k ts ta (Remember (record { b = b; k = k; ta = ta })) (Confirmation ta k)

  -- "6 | the run is done"
  abbrev pub finishing : (r a b k ts ta : ℕ) → Effect
  finishing r a b k ts ta = advancing Initiator Done r a b k ts ta Same sending.Nothing

  -- "10 | changes nothing"; "7 | clock becomes t" is the same with that clock
  abbrev pub nothing : Effect
  nothing = still Same sending.Nothing None

  -- "8 | forgets b's entries whose Ta + La is at or below the clock"
  abbrev pub forgetting : ℕ → Effect
  forgetting b = still (Forget b) sending.Nothing None

  -- "9 | leaks a server run's key onto the wire"
  abbrev pub leaking : ℕ → Effect
  leaking r = still Same (Key r) (Some r)
