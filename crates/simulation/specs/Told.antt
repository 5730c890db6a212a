-- What an accepted call is answered, by the reading: a term its number, new or old, a step the run of its event and how many terms
-- the reading's table grew by.
-- Assumes nothing.
use Rattle.std.specs.Prelude.{ℕ, suc, ◌+◌, ◌-◌, ◌≡◌, List, [], ◌∷◌, length, Option, Some, None, Ok}
use Rattle.std.proofs.Math.Logic.{ite}
use Rattle.terms.specs.Message.{Message}
use Rattle.messages.specs.Listed.{same, add_all}
use Rattle.exchange.specs.declared.call.Accepted.TheVariants.{Old, New, Taken}
use Rattle.exchange.specs.declared.call.Call.{Call}
use Rattle.exchange.specs.Calls.{Answer, accepts, added_by}
use Rattle.traces.specs.Realm.{Realm}
use Rattle.traces.specs.RuleSets.{Reading, read}
use Rattle.kerberos.specs.Log.{Event, Initiate, Respond, Issue, Authenticate, Accept, Finish, Tick, Purge, Leak, Nothing, Act}
use Rattle.kerberos.specs.Reading.{set_of}

-- ---- definitions

-- "the run opened by steps 1 to 3 or named in steps 4, 5, 6 and 9, else `-`"
abbrev pub named_by : Event → Option ℕ
named_by (Initiate r a b) = Some r
named_by (Respond r a b) = Some r
named_by (Issue r a b ts n) = Some r
named_by (Authenticate r a b k ts ta) = Some r
named_by (Accept r a b k ts ta) = Some r
named_by (Finish r a b k ts ta) = Some r
named_by (Tick t) = None
named_by (Purge b) = None
named_by (Leak r) = Some r
named_by Nothing = None

-- "an accepted ST line ends in `+` and the number of terms added"
abbrev pub step_told : (terms : List Message) → Act → Answer
step_told terms (e, ms) = Ok (Taken (named_by e) (length (add_all ms terms) - length terms))

-- "adding one that is present gives its number", and "A TM line ends in `new` or `old`"; `at` terms stand before these
abbrev pub term_told : (at : ℕ) (terms : List Message) → Message → Answer
term_told at [] m = Ok (New at)
term_told at (x ∷ terms) m = ite (same m x) (Ok (Old at)) (term_told (suc at) terms m)

-- the reading's table grows by as many terms as a call was answered
abbrev pub GrowsBy : Realm → Reading Event → Call → Answer → Type 0
GrowsBy R ρ c answer = length (read (set_of R) (accepts answer) c ρ).terms ≡ length ρ.terms + added_by answer
