-- What is promised of the public call, `call`, and so of `pogandir_call`: its contract is an equation with `lent_call`, the answer and
-- every table afterwards. Reading order: Lent (one call), Lists (a list of them, each on the tables that the one before it left). And of
-- `known`, and so of `pogandir_known`: an equation with `known_of` (Known), the answer and every word of the set.
-- Assumes nothing.
use Rattle.std.specs.Prelude.{ℕ, ◌+◌, ◌^◌, ◌<◌, ◌≡◌, true, List, ◌∷◌, ◌↔◌, length, get_or, Ok, Err}
use Rattle.std.proofs.Math.Option.{some}
use Rattle.marks.specs.Marks.{marked}
use Rattle.terms.specs.Message.{session, Message, key}
use Rattle.deduction.specs.Known.{Derivable}
use Rattle.exchange.specs.declared.call.Call.{Call}
use Rattle.exchange.specs.declared.call.Call.TheVariants.{Term, Step}
use Rattle.exchange.specs.Calls.{accepts, added_by, Sized, AllSized}
use Rattle.traces.specs.Conditions.{Delivers}
use Rattle.traces.specs.Engines.{Agrees}
use Rattle.traces.specs.RuleSets.{reading}
use Rattle.traces.specs.Terms.{message_from}
use Rattle.kerberos.specs.Agreement.{Demand3, Secrecy}
use Rattle.kerberos.specs.Entries.{Entries}
use Rattle.kerberos.specs.Log.{Act, clock}
use Rattle.exchange.specs.Forms.{form_of}
use Rattle.kerberos.specs.Reading.{set_of}
use Rattle.kerberos.specs.Rules.{Takes}
use Rattle.kerberos.proofs.Theorems.{demand3, secret_keys, entries}
use Rattle.realm.specs.declared.header.Realm.{Realm}
use Rattle.realm.specs.New.{Lends}
use Rattle.exchange.specs.declared.header.Header.{Header}
use Rattle.realm.specs.Opening.{header, opening_of}
use Rattle.realm.specs.Tables.{Tables, Together}
use Rattle.simulation.specs.Ahead.{Passes17}
use Rattle.simulation.specs.Engine.{New}
use Rattle.simulation.proofs.Engine.{opened_new}
use Rattle.simulation.specs.Exact.{Takable}
use Rattle.simulation.specs.Told.{step_told, term_told}
use Rattle.simulation.specs.Underivable.{Barred}
use Rattle.simulation.specs.Unread.{Alike}
use Rattle.simulation.specs.Values.{values_of}
use Rattle.calls.proofs.Kept as kept
use Rattle.calls.proofs.Known as known
use Rattle.calls.specs.Known.{known_of, known_in}
use Rattle.calls.specs.Lent.{lent_call}
use Rattle.calls.specs.Lists.{lent_after, lent_history}
use Rattle.calls.proofs.Same.{lent_follows, lent_lawful, lent_agrees}

-- ---- one call, on any tables

-- "A refusal is its number alone. State, wire, cache and terms stay unchanged": the realm and every place of every table.
pub refused_kept : (t : Tables) (c : Call) {k : ℕ} → (lent_call t c).answer ≡ Err k → (lent_call t c).tables ≡ t
refused_kept t c e = kept.refused_kept t c e

-- "Places at or past a table's count are never read": on tables that hold together and are alike below the counts the answer is the
-- same, and the tables stay alike.
module _ (t u : Tables) (t_holds : Together t) (u_holds : Together u) (same : Alike t u) (c : Call) where
  pub unread_answer : (lent_call t c).answer ≡ (lent_call u c).answer
  unread_answer = kept.unread_answer t u t_holds u_holds same c

  pub unread_tables : Alike (lent_call t c).tables (lent_call u c).tables
  unread_tables = kept.unread_tables t u t_holds u_holds same c

-- Where `known` answers 0, its set has a term exactly where its message can be derived from the wire.
pub known_exact : (h : Realm) (ts ws out : List ℕ) → (known_of h ts ws out).0 ≡ 0 → ((j : ℕ) → get_or ws j 0 < 2 ^ 64) → (i : ℕ)
    → (marked (known_of h ts ws out).1 i ≡ true) ↔ ((i < h.terms) × Derivable h.n h.flags ts h.terms ws i)
known_exact h ts ws out given fit i = known.known_exact h ts ws out given fit i

-- ---- every list of calls from a new realm: what `open_realm` gave, and the caller's own tables, whatever stands in their places

module _ (g : Header) (ls_fits : g.ls < 2 ^ 32) (la_fits : g.la < 2 ^ 32) (h : Realm) (opened : opening_of g ≡ Ok h)
    (t : Tables) (lends : Lends h t) (cs : List Call) (sized : AllSized cs) where
  new : New (header h) t
  new = opened_new g h t ls_fits la_fits opened lends

  -- Demand 3 holds of it, under the rule set that the realm names,
  pub public_demand3 : Demand3 (form_of h.rules) (header h) (lent_history t cs)
  public_demand3 = demand3 (form_of h.rules) (header h) (lent_history t cs) (lent_lawful (header h) t new cs sized)

  -- the intruder cannot derive a key that was issued to two good principals and has not leaked,
  pub public_secret_keys : Secrecy (form_of h.rules) (header h) (lent_history t cs)
  public_secret_keys = secret_keys (form_of h.rules) (header h) (lent_history t cs) (lent_lawful (header h) t new cs sized)

  -- each entry of its replay cache is from an acceptance of a time near the clock, and the initiator's own unless the intruder has a key
  -- for it,
  pub public_entries : Entries (form_of h.rules) (header h) (lent_history t cs)
  public_entries = entries (form_of h.rules) (header h) (lent_history t cs) (lent_lawful (header h) t new cs sized)

  -- and "after each call the runs, the clock and the wire in the tables agree with these readings", and so do terms and cache.
  pub public_agrees : Agrees (set_of (header h)) (header h) (values_of (header h) (lent_after t cs)) (reading (set_of (header h)) (lent_history t cs))
  public_agrees = lent_agrees (header h) t new cs sized

  -- A call is accepted exactly where the rules take it, in the reading of the calls before it,
  pub public_exact : (c : Call) → Sized c → (accepts (lent_call (lent_after t cs) c).answer ≡ true) ↔ Takable (header h) (reading (set_of (header h)) (lent_history t cs)) c
  public_exact c size = kept.accepted_exact (lent_follows (header h) t new cs sized) c size

  -- and the answer is told by that reading: a step's is the run that its event opened or names and how many terms it added,
  pub public_answer : (step r a b m now : ℕ) {act : Act} → let ρ = reading (set_of (header h)) (lent_history t cs) in
      Takes (form_of h.rules) (header h) ρ.terms ρ.log (Step step r a b m now) act → (lent_call (lent_after t cs) (Step step r a b m now)).answer ≡ step_told ρ.terms act
  public_answer step r a b m now k = kept.step_answer (lent_follows (header h) t new cs sized) step r a b m now k

  -- a term's its number, old where it was present and new where not.
  pub public_term : (kind x y : ℕ) → Sized (Term kind x y) → {act : Act} {m : Message} → let ρ = reading (set_of (header h)) (lent_history t cs) in
      Takes (form_of h.rules) (header h) ρ.terms ρ.log (Term kind x y) act → message_from ρ.terms kind x y ≡ some m
      → (lent_call (lent_after t cs) (Term kind x y)).answer ≡ term_told 0 ρ.terms m
  public_term kind x y size k made = kept.term_answer (lent_follows (header h) t new cs sized) kind x y size k made

  -- The reading's table grows by as many terms as the answer tells, whatever the call.
  pub public_grows : (c : Call) → Sized c
      → length (reading (set_of (header h)) (lent_history t (c ∷ cs))).terms ≡ length (reading (set_of (header h)) (lent_history t cs)).terms + added_by (lent_call (lent_after t cs) c).answer
  public_grows c size = kept.terms_grow (lent_follows (header h) t new cs sized) c size

  -- 15 is given exactly where the table of refusals has it for the step, the intruder cannot deliver m, and no refusal before it was
  -- given.
  pub public_underivable : (step r a b m now : ℕ) → let answer = (lent_call (lent_after t cs) (Step step r a b m now)).answer in
      (answer ≡ Err 15) ↔ Barred (header h) (reading (set_of (header h)) (lent_history t cs)) step m answer
  public_underivable step r a b m now = kept.underivable_exact (lent_follows (header h) t new cs sized) step r a b m now

  -- 22 is given to a delivery that nothing before it bars exactly where its Ta is above clock + La.
  pub public_ahead : (r m a b k ts ta : ℕ) → let ρ = reading (set_of (header h)) (lent_history t cs) in
      Passes17 (header h) ρ r m a b k ts ta → ((lent_call (lent_after t cs) (Step 5 r 0 0 m 0)).answer ≡ Err 22) ↔ (clock ρ.log + (header h).auth_life < ta)
  public_ahead r m a b k ts ta p = kept.ahead_exact (lent_follows (header h) t new cs sized) r m a b k ts ta p

  -- Its tables never meet 10,
  pub public_never_10 : (c : Call) → ¬ ((lent_call (lent_after t cs) c).answer ≡ Err 10)
  public_never_10 c e = kept.never_10 (lent_after t cs) c (lent_follows (header h) t new cs sized).together e

  -- a step 10 changes nothing,
  pub public_query : (r a b m now : ℕ) → (lent_call (lent_after t cs) (Step 10 r a b m now)).tables ≡ lent_after t cs
  public_query r a b m now = kept.query_kept (lent_after t cs) (lent_follows (header h) t new cs sized).together r a b m now

  -- and neither does a leak of a key that is on the wire.
  pub public_leak : (r a b m now : ℕ) → (values_of (header h) (lent_after t cs)).wire (key (session r)) → (lent_call (lent_after t cs) (Step 9 r a b m now)).tables ≡ lent_after t cs
  public_leak r a b m now k = kept.leak_kept (lent_after t cs) (lent_follows (header h) t new cs sized).together r a b m now k

  -- All that the intruder can derive is told at once: `known` answers 0, and its set has a term exactly where he can deliver it, in the
  -- reading,
  pub public_known : (out : List ℕ) → length out ≡ 8 → (known_in (lent_after t cs) out).0 ≡ 0
  public_known out eight = known.known_given (lent_after t cs) (lent_follows (header h) t new cs sized).together out eight

  pub public_known_exact : (out : List ℕ) → length out ≡ 8 → (i : ℕ) → let ρ = reading (set_of (header h)) (lent_history t cs) in
      (marked (known_in (lent_after t cs) out).1 i ≡ true) ↔ ((x : Message) × Delivers (header h) ρ.terms ρ.log i x)
  public_known_exact out eight i = known.known_delivers (lent_follows (header h) t new cs sized) out eight i

  -- and so exactly where step 10 of it is accepted.
  pub public_known_query : (out : List ℕ) → length out ≡ 8 → (i : ℕ) → i < 2 ^ 16
      → (marked (known_in (lent_after t cs) out).1 i ≡ true) ↔ (accepts (lent_call (lent_after t cs) (Step 10 0 0 0 i 0)).answer ≡ true)
  public_known_query out eight i below = known.known_query (lent_follows (header h) t new cs sized) out eight i below
