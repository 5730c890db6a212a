-- How an accepted call is read, and with that the rule set of a form (document 01, "The list behind demand 3"): "made at 3, read
-- from m at 4 and 5". What an accepted call means where it does not read is for no rule to take.
-- Assumes nothing.
use Rattle.std.specs.Prelude.{ℕ, [], ◌∷◌, map, get_or}
use Rattle.terms.specs.Message.{session, Message, key}
use Rattle.messages.specs.Listed.{term_at}
use Rattle.exchange.specs.declared.call.Call.{Call}
use Rattle.exchange.specs.declared.call.Call.TheVariants.{Term, Step}
use Rattle.exchange.specs.declared.run.Row.{Row}
use Rattle.traces.specs.Realm.{Realm}
use Rattle.traces.specs.Terms.{given}
use Rattle.traces.specs.Places.{left_of, right_of, body_of, number_of, rest, at}
use Rattle.traces.specs.RuleSets.{History, Reading, RuleSet}
use Rattle.traces.specs.RuleSets as rulesets
use Rattle.exchange.specs.declared.form.Form.{Form}
use Rattle.exchange.specs.declared.form.Form.TheVariants.{Parallel, Kerberos5, Kerberos4}
use Rattle.exchange.specs.Forms.{form_of}
use Rattle.kerberos.specs.Messages.{request, confirmation, issue, presented}
use Rattle.kerberos.specs.Log.{Event, Initiate, Respond, Issue, Authenticate, Accept, Finish, Tick, Purge, Leak, Nothing, Act, idle, Log}
use Rattle.kerberos.specs.Log.{clock, runs, run, next, stored, cache}
use Rattle.kerberos.specs.Rules.{Takes}

-- ---- what an accepted call did and sent

-- "A run has, or holds, K and Ts from its accepted step 3, 4 or 5 on: made at 3, read from m at 4 and 5. Ta is the clock at 4
-- and read from m at 5".

-- [a, b, N]; the run's own number is its key's
abbrev did3 : Form → (r a b ts n : ℕ) → Act
did3 f r a b ts n = (Issue r a b ts n, issue f r a b ts n)

abbrev read3 : Form → (r now : ℕ) → Message → Act
read3 f r now m = did3 f r (number_of (at 0 m)) (number_of (at 1 m)) now (number_of (rest 2 m))

-- what step 4 took, apart: the server's reply, and "any term X". Under HD and HW there is no X: m stands for it, and is in nothing
-- that is sent.
abbrev pub parts : Form → Message → Message × Message
parts Parallel m = (m, m)
parts Kerberos5 m = (left_of m, right_of m)
parts Kerberos4 m = (m, rest 4 (body_of m))

-- {K, b, Ts, ..} under a's key, and X; a and b are the run's own
abbrev did4 : Form → (r a b k ts ta : ℕ) → (x : Message) → Act
did4 f r a b k ts ta x = (Authenticate r a b k ts ta, presented f a ta k x)

abbrev pub read4 : Form → (r now : ℕ) → Row → Message → Act
read4 f r now own m =
    let body = body_of (parts f m).0 in
    did4 f r own.a own.b (number_of (at 0 body)) (number_of (at 2 body)) now (parts f m).1

-- {K, a, Ts} under b's key and {a, Ta}K; a and b are the run's own
abbrev did5 : (r a b k ts ta : ℕ) → Act
did5 r a b k ts ta = (Accept r a b k ts ta, confirmation ta k ∷ [])

abbrev read5 : (r : ℕ) → Row → Message → Act
read5 r own m =
    let body = body_of (left_of m) in
    did5 r own.a own.b (number_of (at 0 body)) (number_of (rest 2 body)) (number_of (rest 1 (body_of (right_of m))))

-- all values are the run's own
abbrev read6 : (r : ℕ) → Row → Act
read6 r own = (Finish r own.a own.b own.k own.ts own.ta, [])

-- by the step's number, from 0 on
abbrev pub act_of : Form → Call → Reading Event → Act
act_of f (Term kind x y) ρ = idle
act_of f (Step step r a b m t) ρ =
    let l = ρ.log in
    let term = term_at ρ.terms m in
    get_or (
    idle
    ∷ (Initiate (next l) a b, request a b (next l) ∷ [])
    ∷ (Respond (next l) a b, [])
    ∷ given term idle (λ x. read3 f (next l) (clock l) x)
    ∷ given (run l r) idle (λ o. given term idle (λ x. read4 f r (clock l) (stored o) x))
    ∷ given (run l r) idle (λ o. given term idle (λ x. read5 r (stored o) x))
    ∷ given (run l r) idle (λ o. read6 r (stored o))
    ∷ (Tick t, [])
    ∷ (Purge b, [])
    ∷ (Leak r, key (session r) ∷ [])
    ∷ idle
    ∷ []) step idle

-- ---- the rule set

abbrev pub rules : Form → RuleSet
rules f =
    record { Event = Event; nothing = Nothing; clock = clock; Row = Row; rows = λ l. map stored (runs l); entries = cache; act_of = act_of f; Takes = Takes f }

-- "Add two rule sets, named by header marks H5 and H4 .. and keep the old one under HD and HW": the one that a realm's header names by
-- its number
abbrev pub set_of : Realm → RuleSet
set_of R = rules (form_of R.rules)

-- the log that a list of calls with their answers is read as
abbrev pub log : Form → History → Log
log f h = rulesets.log (rules f) h

-- "The list starts from a new hall", and the rules take each accepted call.
abbrev pub Lawful : Form → Realm → History → Type 0
Lawful f R h = rulesets.Lawful (rules f) R h
