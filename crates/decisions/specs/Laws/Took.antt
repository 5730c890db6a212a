-- What a step that is taken has met, in terms of the tables. What the rules ask for, and what the writing of the event needs, is
-- read from this.
-- Assumes nothing.
use Rattle.std.specs.Prelude.{ℕ, ◌+◌, ◌<◌, ◌≤◌, ◌≡◌, true, false}
use Rattle.terms.specs.Meaning.{message_at}
use Rattle.terms.specs.Message.{Message, pair}
use Rattle.deduction.specs.Derives.{Derives}
use Rattle.deduction.specs.Known.{Known}
use Rattle.replay.specs.Cache.{present, entries}
use Rattle.runs.specs.Lent.{PrincipalsFit}
use Rattle.rows.specs.Runs.{run_at}
use Rattle.exchange.specs.declared.call.Call.{Call}
use Rattle.exchange.specs.declared.call.Call.TheVariants as calls
use Rattle.kerberos.specs.Log.{Event}
use Rattle.kerberos.specs.Log.{Initiate, Respond, Issue, Authenticate, Accept, Finish, Tick, Purge, Leak, Nothing}
use Rattle.exchange.specs.declared.run.Role.{Role}
use Rattle.exchange.specs.declared.run.Role.TheVariants.{Initiator, Responder, Server}
use Rattle.exchange.specs.declared.run.Row.{Row}
use Rattle.exchange.specs.declared.run.Stage.{Stage}
use Rattle.exchange.specs.declared.run.Stage.TheVariants.{Opened, Authenticated, Done}
use Rattle.kerberos.specs.Messages.{request, grant, ticket, authenticator, confirmation}
use Rattle.kerberos.specs.Reading.{parts}
use Rattle.exchange.specs.declared.form.Form.{Form}
use Rattle.exchange.specs.Forms.{form_of}
use Rattle.exchange.specs.Needs.{is_at}
use Rattle.traces.specs.Conditions.{Apart}
use Rattle.realm.specs.Tables.{Tables}
use Rattle.decisions.specs.declared.Effect.{Effect}
use Rattle.decisions.specs.Effects.{initiates, responds, issuing, authenticating, accepting, finishing, nothing, forgetting, leaking}

-- the row of run r
abbrev pub row_at : Tables → ℕ → Row
row_at t r = run_at t.runs r

-- the form that the realm's rule set names
abbrev pub form_at : Tables → Form
form_at t = form_of t.realm.rules

-- run r is there, at this role and stage
pub record Meets (t : Tables) (r : ℕ) (role : Role) (stage : Stage) : Type 0 where
  pub below : r < t.realm.runs
  pub at : is_at (row_at t r) role stage ≡ true

-- "the intruder can build m", and m is this message
pub record Brings (t : Tables) (m : ℕ) (x : Message) : Type 0 where
  pub below : m < t.realm.terms
  pub is : message_at t.terms m ≡ x
  pub derivable : Derives t.realm.n t.realm.flags (Known t.terms t.realm.terms t.wire) x

-- term x is present, and is the X of m
pub record PassesOn (t : Tables) (m x : ℕ) : Type 0 where
  pub below : x < t.realm.terms
  pub is : message_at t.terms x ≡ (parts (form_at t) (message_at t.terms m)).1

-- neither 16 nor 17 nor 22
pub record Timely (t : Tables) (ts ta : ℕ) : Type 0 where
  pub ticket_lives : t.realm.clock < ts + t.realm.ls
  pub authenticator_lives : t.realm.clock < ta + t.realm.la
  pub not_ahead : ta ≤ t.realm.clock + t.realm.la

-- and neither 18 nor 19
pub record Admits (t : Tables) (ts b k ta : ℕ) : Type 0 where
  pub timely : Timely t ts ta
  pub absent : present (entries t.cache t.realm.entries) (record { b = b; k = k; ta = ta }) ≡ false
  pub room : t.realm.entries < 16

-- by the rows of the step table: the call, the event that it is, and what the tables do. a and b of a run that is named are its
-- row's.
pub data Took (t : Tables) : Call → Event → Effect → Type 0 where
  took1 : {a b : ℕ}
      → PrincipalsFit t.realm.n a b
      → t.realm.runs < 64
      → Took t (calls.Step 1 0 a b 0 0) (Initiate t.realm.runs a b) (initiates t.realm.clock t.realm.runs a b)
  took2 : {a b : ℕ}
      → PrincipalsFit t.realm.n a b
      → t.realm.runs < 64
      → Took t (calls.Step 2 0 a b 0 0) (Respond t.realm.runs a b) (responds t.realm.clock t.realm.runs a b)
  took3 : {m a b n : ℕ}
      → Brings t m (request a b n)
      → Apart a b
      → t.realm.runs < 64
      → Took t (calls.Step 3 0 0 0 m 0) (Issue t.realm.runs a b t.realm.clock n) (issuing t.realm.clock (form_at t) t.realm.runs a b n)
  took4 : {r m k ts x : ℕ}
      → Meets t r Initiator Opened
      → Brings t m (grant (form_at t) k (row_at t r).b ts r (row_at t r).a (message_at t.terms x))
      → PassesOn t m x
      → t.realm.clock < ts + t.realm.ls
      → Took t (calls.Step 4 r 0 0 m 0) (Authenticate r (row_at t r).a (row_at t r).b k ts t.realm.clock)
      (authenticating t.realm.clock (form_at t) r (row_at t r).a (row_at t r).b k ts x)
  took5 : {r m k ts ta : ℕ}
      → Meets t r Responder Opened
      → Brings t m (pair (ticket k (row_at t r).a ts (row_at t r).b) (authenticator (row_at t r).a ta k))
      → Admits t ts (row_at t r).b k ta
      → Took t (calls.Step 5 r 0 0 m 0) (Accept r (row_at t r).a (row_at t r).b k ts ta)
      (accepting t.realm.clock r (row_at t r).a (row_at t r).b k ts ta)
  took6 : {r m : ℕ}
      → Meets t r Initiator Authenticated
      → Brings t m (confirmation (row_at t r).ta (row_at t r).k)
      → t.realm.clock < (row_at t r).ts + t.realm.ls
      → Took t (calls.Step 6 r 0 0 m 0) (Finish r (row_at t r).a (row_at t r).b (row_at t r).k (row_at t r).ts (row_at t r).ta)
      (finishing t.realm.clock r (row_at t r).a (row_at t r).b (row_at t r).k (row_at t r).ts (row_at t r).ta)
  took7 : {now : ℕ} → t.realm.clock ≤ now → Took t (calls.Step 7 0 0 0 0 now) (Tick now) (nothing now)
  took8 : {b : ℕ} → b < t.realm.n → Took t (calls.Step 8 0 0 b 0 0) (Purge b) (forgetting t.realm.clock b)
  took9 : {r : ℕ} → Meets t r Server Done → Took t (calls.Step 9 r 0 0 0 0) (Leak r) (leaking t.realm.clock r)
  took10 : {m : ℕ} {x : Message} → Brings t m x → Took t (calls.Step 10 0 0 0 m 0) Nothing (nothing t.realm.clock)

-- the call has this effect, as one event or another
pub record TookAs (t : Tables) (c : Call) (x : Effect) : Type 0 where
  pub event : Event
  pub took : Took t c event x
