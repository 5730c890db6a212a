-- What is promised of every list of calls, a call being what `called` of effects/Call says: the contracts of the engine's functions are
-- equations with it. Reading order: Values (tables as the reading has them), Engine (a list of calls from a new realm), Cases (the
-- paper's lettered cases). How it is shown: Rules (what a step that is taken has met is what the rules ask for), Mirrors (an effect
-- beside an event), Follows (of writing an effect, over Runs, Entries and Wire), Terms (of adding a term), Taken (of a step) and
-- Kept (of a call). The way back, from the rules to the tables, is Back and TermsBack; both ways together are Exact, with what
-- an answer tells from Told, and of refusals 15 and 22 Underivable and Ahead. Unread is about places past the counts.
-- Assumes nothing.
use Rattle.std.specs.Prelude.{ℕ, ◌+◌, ◌<◌, ◌≡◌, true, List, map, ◌↔◌, length, replicate, Err}
use Rattle.std.proofs.Common.{subst}
use Rattle.std.proofs.Math.Option.{some}
use Rattle.terms.specs.Message.{session, Message, key}
use Rattle.exchange.specs.declared.call.Call.{Call}
use Rattle.exchange.specs.declared.call.Call.TheVariants.{Term, Step}
use Rattle.exchange.specs.Calls.{accepts, Sized, AllSized}
use Rattle.traces.specs.Engines.{Agrees, after, history}
use Rattle.traces.proofs.Promises.{tables_agree}
use Rattle.traces.specs.Realm.{Realm, HeaderPasses}
use Rattle.traces.specs.RuleSets.{Reading, reading}
use Rattle.traces.specs.Terms.{message_from}
use Rattle.kerberos.specs.Agreement.{Demand3, Secrecy}
use Rattle.kerberos.specs.Entries.{Entries}
use Rattle.kerberos.specs.Log.{Event, Act, clock}
use Rattle.exchange.specs.Forms.{form_of}
use Rattle.kerberos.specs.Reading.{set_of, Lawful}
use Rattle.kerberos.specs.Rules.{Takes}
use Rattle.kerberos.proofs.Theorems as kerberos
use Rattle.kerberos.proofs.Theorems.{engine_lawful}
use Rattle.realm.specs.Check.{together}
use Rattle.realm.proofs.Check.{is_together}
use Rattle.realm.specs.Opening.{header}
use Rattle.realm.specs.Tables.{Tables, Together}
use Rattle.effects.specs.Call.{called, checked}
use Rattle.simulation.proofs.Ahead as ahead
use Rattle.simulation.specs.Ahead.{Passes17}
use Rattle.simulation.specs.Cases.{play, table}
use Rattle.simulation.proofs.Cases.{cases, cases_start}
use Rattle.simulation.specs.Engine.{New, Follows}
use Rattle.simulation.proofs.Engine.{engine_of}
use Rattle.simulation.proofs.Exact as exact
use Rattle.simulation.specs.Exact.{Takable}
use Rattle.simulation.proofs.Idle as idle
use Rattle.simulation.proofs.Told as told
use Rattle.simulation.specs.Told.{step_told, term_told, GrowsBy}
use Rattle.simulation.proofs.Underivable as underivable
use Rattle.simulation.specs.Underivable.{Barred}
use Rattle.simulation.specs.Unread.{Alike}
use Rattle.simulation.proofs.Unread.{answers_alike, tables_alike}
use Rattle.simulation.specs.Values.{values_of}

-- In every list of calls, each with any fields, from a new realm under any header that refusal 2 lets pass, each accepted call is one
-- that the rules take. So demand 3 holds of it, the secrecy of an unleaked key, and what is promised of the entries of the replay cache,
-- under each rule set.
pub lawful_calls : (R : Realm) (t : Tables) (new : New R t) (cs : List Call) → AllSized cs → Lawful (form_of R.rules) R (history (set_of R) R (engine_of R t new) cs)
lawful_calls R t new cs size =
    engine_lawful (form_of R.rules) R (subst HeaderPasses new.header_is new.together.header_fits) (engine_of R t new) cs size

pub demand3 : (R : Realm) (t : Tables) (new : New R t) (cs : List Call) → AllSized cs → Demand3 (form_of R.rules) R (history (set_of R) R (engine_of R t new) cs)
demand3 R t new cs size = kerberos.demand3 (form_of R.rules) R (history (set_of R) R (engine_of R t new) cs) (lawful_calls R t new cs size)

pub secret_keys : (R : Realm) (t : Tables) (new : New R t) (cs : List Call) → AllSized cs → Secrecy (form_of R.rules) R (history (set_of R) R (engine_of R t new) cs)
secret_keys R t new cs size = kerberos.secret_keys (form_of R.rules) R (history (set_of R) R (engine_of R t new) cs) (lawful_calls R t new cs size)

pub entries : (R : Realm) (t : Tables) (new : New R t) (cs : List Call) → AllSized cs → Entries (form_of R.rules) R (history (set_of R) R (engine_of R t new) cs)
entries R t new cs size = kerberos.entries (form_of R.rules) R (history (set_of R) R (engine_of R t new) cs) (lawful_calls R t new cs size)

-- "After each call the runs, the clock and the wire in the tables agree with these readings", and so do terms and cache.
pub tables_follow : (R : Realm) (t : Tables) (new : New R t) (cs : List Call) → AllSized cs
    → Agrees (set_of R) R (values_of R (after (set_of R) R (engine_of R t new) cs)) (reading (set_of R) (history (set_of R) R (engine_of R t new) cs))
tables_follow R t new cs size = tables_agree (set_of R) R (engine_of R t new) cs size

-- Where the tables follow a reading, a call is accepted exactly where the rules take it, and its answer is told by the reading: a step's
-- is the run of its event and how many terms it added, a term's its place and whether it is new.
pub accepted_exact : (R : Realm) (t : Tables) (ρ : Reading Event) → Follows R t ρ → (c : Call) → Sized c → (accepts (called t c).answer ≡ true) ↔ Takable R ρ c
accepted_exact R t ρ f c size = exact.accepted_exact t ρ f c size

pub step_answer : (R : Realm) (t : Tables) (ρ : Reading Event) → Follows R t ρ → (step r a b m now : ℕ) {act : Act}
    → Takes (form_of R.rules) R ρ.terms ρ.log (Step step r a b m now) act → (called t (Step step r a b m now)).answer ≡ step_told ρ.terms act
step_answer R t ρ f step r a b m now k = exact.step_answer t ρ f step r a b m now k

pub term_answer : (R : Realm) (t : Tables) (ρ : Reading Event) → Follows R t ρ → (kind x y : ℕ) → Sized (Term kind x y) → {act : Act} {m : Message}
    → Takes (form_of R.rules) R ρ.terms ρ.log (Term kind x y) act → message_from ρ.terms kind x y ≡ some m → (called t (Term kind x y)).answer ≡ term_told 0 ρ.terms m
term_answer R t ρ f kind x y size k made = exact.term_answer t ρ f kind x y size k made

-- Whatever it is answered, the reading's table grows by as many terms as the answer tells.
pub terms_grow : (R : Realm) (t : Tables) (ρ : Reading Event) → Follows R t ρ → (c : Call) → Sized c → GrowsBy R ρ c (called t c).answer
terms_grow R t ρ f c size = told.terms_grow f c size

-- 15 is given exactly where the step can have it, nothing before it applies, and the intruder cannot deliver m.
pub underivable_exact : (R : Realm) (t : Tables) (ρ : Reading Event) → Follows R t ρ → (step r a b m now : ℕ)
    → let answer = (called t (Step step r a b m now)).answer in (answer ≡ Err 15) ↔ Barred R ρ step m answer
underivable_exact R t ρ f step r a b m now = underivable.underivable_exact t ρ f step r a b m now

-- "22 for such a Ta, after 17 and before 18": a delivery that nothing before it bars has it exactly where its Ta is above clock + La.
pub ahead_exact : (R : Realm) (t : Tables) (ρ : Reading Event) → Follows R t ρ → (r m a b k ts ta : ℕ) → Passes17 R ρ r m a b k ts ta
    → ((called t (Step 5 r 0 0 m 0)).answer ≡ Err 22) ↔ (clock ρ.log + R.auth_life < ta)
ahead_exact R t ρ f r m a b k ts ta p = ahead.ahead_exact t ρ f r m a b k ts ta p

-- "10 is met only by a library caller": on tables that hold together the checked call is the call.
pub ten_unmet : (t : Tables) (c : Call) → Together t → checked t c ≡ called t c
unfolding checked
ten_unmet t c w = rw (is_together t w)

-- "10 | .. changes nothing", whether it is accepted or not,
pub query_kept : (t : Tables) → Together t → (r a b m now : ℕ) → (called t (Step 10 r a b m now)).tables ≡ t
query_kept t w r a b m now = idle.query_kept t w r a b m now

-- and a leak of a key that is on the wire changes nothing: "leaking it again changes nothing".
pub leak_kept : (t : Tables) → Together t → (r a b m now : ℕ) → (values_of (header t.realm) t).wire (key (session r)) → (called t (Step 9 r a b m now)).tables ≡ t
leak_kept t w r a b m now k = idle.leak_kept t w r a b m now k

-- "Places at or past a table's count are never read": tables that are alike below the counts have the same answer, and stay alike.
pub unread_answers : (t u : Tables) → Together t → Together u → Alike t u → (c : Call) → (called t c).answer ≡ (called u c).answer
unread_answers t u w w' a c = answers_alike t u w w' a c

pub unread_tables : (t u : Tables) → Together t → Together u → Alike t u → (c : Call) → Alike (called t c).tables (called u c).tables
unread_tables t u w w' a c = tables_alike t u w w' a c

-- F and the lettered cases come out as the paper says, from tables that hold together.
pub lettered : (map play table ≡ map (λ c. c.says) table) × (map (λ c. together c.start) table ≡ replicate (length table) true)
lettered = (cases, cases_start)
