-- Where the tables agree with a reading, what the rules of the exchange take has met, in the tables, what its row of the step table
-- asks for, and its terms fit. The way back from `Rules`.
-- Assumes nothing.
use Rattle.std.specs.Prelude.{ℕ, zero, suc, ◌+◌, ◌<◌, ◌≤◌, ◌≡◌, refl, true, false, length}
use Rattle.std.proofs.Common.{sym, ap, ◌∙◌, subst, arith}
use mathlib.Core.List.{List, [], ◌∷◌, map, Memᴰ}
use Rattle.std.proofs.Math.Option.{some, some-injective}
use Rattle.std.proofs.Math.ListN.{get_elem?}
use Rattle.terms.specs.Meaning.{message_at}
use Rattle.terms.specs.Message.{Message, session, key, pair}
use Rattle.terms.proofs.Choice.{is_false}
use Rattle.deduction.proofs.Promises.{monotone}
use Rattle.messages.specs.Listed.{term_at, insert}
use Rattle.messages.proofs.Listed.{insert_present}
use Rattle.messages.proofs.Meanings.{meanings_length, meanings_at, at_meanings}
use Rattle.replay.specs.Cache.{present, entries}
use Rattle.replay.proofs.Promises.{present_exactly}
use Rattle.replay.specs.declared.entry.Entry as replay
use Rattle.runs.specs.Lent.{PrincipalsFit}
use Rattle.runs.proofs.Promises.{key_means}
use Rattle.rows.proofs.Promises.{rows_at}
use Rattle.exchange.specs.declared.call.Call.{Call}
use Rattle.exchange.specs.declared.call.Call.TheVariants as calls
use Rattle.exchange.specs.declared.run.Role.{Role}
use Rattle.exchange.specs.declared.run.Role.TheVariants.{Initiator, Responder, Server}
use Rattle.exchange.specs.declared.run.Row.{Row}
use Rattle.exchange.specs.declared.run.Stage.{Stage}
use Rattle.exchange.specs.declared.run.Stage.TheVariants.{Opened, Authenticated}
use Rattle.exchange.specs.Needs.{is_at}
use Rattle.traces.specs.Lists.{◌∈◌, here, there}
use Rattle.traces.specs.Conditions.{Delivers, Apart}
use Rattle.traces.specs.Engines.{Agrees}
use Rattle.traces.specs.RuleSets.{Entry, entry, Reading}
use Rattle.traces.specs.Terms.{TermsFit}
use Rattle.kerberos.specs.Log.{Event, Act, Run, initiator_opened, initiator_authenticated, responder_opened}
use Rattle.kerberos.specs.Log.{Initiate, Respond, Issue, Authenticate, Accept, Finish}
use Rattle.kerberos.specs.Log.{clock, runs, run, next, cache, stored}
use Rattle.kerberos.specs.Messages.{request, issue, grant, presented, ticket, authenticator, confirmation}
use Rattle.kerberos.specs.Reading.{parts, set_of}
use Rattle.kerberos.proofs.Laws.Forms.{regrant}
use Rattle.kerberos.specs.Rules.{Takes, takes1, takes2, takes3, takes4, takes5, takes6, takes7, takes8, takes9, takes10}
use Rattle.realm.specs.Opening.{header}
use Rattle.realm.specs.Tables.{Tables, Together}
use Rattle.decisions.specs.declared.Effect.{Effect}
use Rattle.decisions.specs.Effects.{messages_of}
use Rattle.decisions.proofs.Laws.Forms.{x_stands}
use Rattle.decisions.specs.Laws.Took.{form_at, row_at, Meets, Brings, Admits, Took, took1, took2, took3, took4, took5, took6, took7, took8, took9, took10}
use Rattle.simulation.proofs.Rules.{next_is, cache_length}
use Rattle.simulation.specs.Values.{logged, values_of}

-- The call is met in the tables for this act: it has an effect, whose messages are the act's.
pub record Met (t : Tables) (c : Call) (a : Act) : Type 0 where
  pub effect : Effect
  pub took : Took t c a.0 effect
  pub sends : messages_of t.terms effect.sends ≡ a.1

-- ---- an entry that the log's cache lacks

logged_in : (xs : List replay.Entry) {x : replay.Entry} → Memᴰ x xs → logged x ∈ map logged xs
logged_in [] x3 = elim x3 [ ]
logged_in (y ∷ xs) (Memᴰ.head e) = subst (λ (z : replay.Entry). logged z ∈ map logged (y ∷ xs)) (sym e) here
logged_in (y ∷ xs) (Memᴰ.tail i) = there (logged_in xs i)

logged_absent : (xs : List replay.Entry) (x : replay.Entry) → ¬ (logged x ∈ map logged xs) → present xs x ≡ false
logged_absent xs x n = sym (is_false (present xs x) (λ e. n (logged_in xs ((present_exactly xs x).0 e))))

-- ---- a run as its row

-- element r of a list of runs is there, and is stored as this row
record Listed (xs : List Run) (r : ℕ) (own : Row) : Type 0 where
  below : r < length xs
  is : get_elem? (map stored xs) r ≡ some own

listed : (xs : List Run) (r : ℕ) {x : Run} → get_elem? xs r ≡ some x → Listed xs r (stored x)
listed [] r e = let z : ◌≡◌ {A = ℕ} 0 1 = cc in absurd (omega arith)
listed (y ∷ xs) zero e = record { below = omega arith; is = ap (λ (x : Run). some (stored x)) (some-injective _ _ e) }
listed (y ∷ xs) (suc r) e = let f = listed xs r e in record { below = omega (arith, f.below); is = f.is }

-- run r of the tables is there, with this row
pub record Stands (t : Tables) (r : ℕ) (own : Row) : Type 0 where
  pub below : r < t.realm.runs
  pub is : row_at t r ≡ own

pub meets : {t : Tables} {r : ℕ} {own : Row} {role : Role} {stage : Stage} → Stands t r own → is_at own role stage ≡ true → Meets t r role stage
meets {role = role} {stage = stage} s h = record { below = s.below; at = ap (λ (x : Row). is_at x role stage) s.is ∙ h }

-- ---- the acts, with the run's values as its row has them, and the clock and the number of the next run as the tables have them

module _ {t : Tables} where
  same_brings : {m : ℕ} {x y : Message} → message_at t.terms m ≡ x → message_at t.terms m ≡ y → Brings t m x → Brings t m y
  same_brings e f b = subst (Brings t _) (sym e ∙ f) b

  by1 : {a b : ℕ} (r : ℕ) → t.realm.runs ≡ r → PrincipalsFit t.realm.n a b → r < 64
      → Met t (calls.Step 1 0 a b 0 0) (Initiate r a b, request a b r ∷ [])
  by1 r q p room = rw (← q) (record { effect = _; took = took1 p (rw q room); sends = refl })

  by2 : {a b : ℕ} (r : ℕ) → t.realm.runs ≡ r → PrincipalsFit t.realm.n a b → r < 64 → Met t (calls.Step 2 0 a b 0 0) (Respond r a b, [])
  by2 r q p room = rw (← q) (record { effect = _; took = took2 p (rw q room); sends = refl })

  by3 : {m a b n : ℕ} (r now : ℕ) → t.realm.runs ≡ r → t.realm.clock ≡ now → Brings t m (request a b n) → Apart a b → r < 64
      → Met t (calls.Step 3 0 0 0 m 0) (Issue r a b now n, issue (form_at t) r a b now n)
  by3 r now q c d p room = rw (← q, ← c) (record { effect = _; took = took3 d p (rw q room); sends = refl })

  by4 : {r m k ts n : ℕ} (own : Row) (now : ℕ) (x : Message) → Together t → row_at t r ≡ own → t.realm.clock ≡ now → Meets t r Initiator Opened
      → Brings t m (grant (form_at t) k own.b ts n own.a x) → n ≡ r → now < ts + t.realm.ls
      → Met t (calls.Step 4 r 0 0 m 0) (Authenticate r own.a own.b k ts now, presented (form_at t) own.a now k x)
  by4 {r} {m} {k} {ts} {n} own now x fits e c w d q i =
      let g = regrant (form_at t) (message_at t.terms m) k own.b ts n own.a x d.is in
      let y = (parts (form_at t) (message_at t.terms m)).1 in
      let s = x_stands fits.terms_hold (form_at t) m d.below k own.b ts n own.a y g.0 refl in
      let b : Brings t m (grant (form_at t) k own.b ts n own.a (message_at t.terms s.place)) = rw s.means (same_brings d.is g.0 d) in
      rw (← e, ← c)
      (record {
        effect = _;
        took = took4 {m = m} {k = k} {ts = ts} {x = s.place} w (rw (e, ← q) b) (record { below = omega (arith, s.by, d.below); is = s.means }) (rw c i);
        sends = ap (presented (form_at t) (row_at t r).a t.realm.clock k) s.means ∙ g.1 (row_at t r).a t.realm.clock;
      })

  by5 : {r m k ts ta : ℕ} (own : Row) → row_at t r ≡ own → Meets t r Responder Opened
      → Brings t m (pair (ticket k own.a ts own.b) (authenticator own.a ta k)) → Admits t ts own.b k ta
      → Met t (calls.Step 5 r 0 0 m 0) (Accept r own.a own.b k ts ta, confirmation ta k ∷ [])
  by5 {m = m} {k = k} {ts = ts} {ta = ta} own e w d i =
      rw (← e) (record { effect = _; took = took5 {m = m} {k = k} {ts = ts} {ta = ta} w (rw e d) (rw e i); sends = refl })

  by6 : {r m : ℕ} (own : Row) → row_at t r ≡ own → Meets t r Initiator Authenticated → Brings t m (confirmation own.ta own.k)
      → t.realm.clock < own.ts + t.realm.ls
      → Met t (calls.Step 6 r 0 0 m 0) (Finish r own.a own.b own.k own.ts own.ta, [])
  by6 {m = m} own e w d i = rw (← e) (record { effect = _; took = took6 {m = m} w (rw e d) (rw e i); sends = refl })

-- ---- what is taken

module _ (t : Tables) (ρ : Reading Event) (fits : Together t) (g : Agrees (set_of (header t.realm)) (header t.realm) (values_of (header t.realm) t) ρ) where
  pub brings : {m : ℕ} {x : Message} → Delivers (header t.realm) ρ.terms ρ.log m x → Brings t m x
  brings {m} {x} d =
      let p = at_meanings t.terms t.realm.terms m x (ap (λ (ms : List Message). term_at ms m) g.terms_are ∙ d.form) in
      record { below = p.0; is = p.1; derivable = monotone (λ y k. (g.wire_is y).1 k) d.derivable }

  pub stands : {r : ℕ} {x : Run} → run ρ.log r ≡ some x → Stands t r (stored x)
  stands {r} e =
      let f = listed (runs ρ.log) r e in
      let h : r < t.realm.runs = omega (arith, f.below, next_is t ρ fits g) in
      record { below = h; is = some-injective _ _ (sym (rows_at t.runs t.realm.runs r h) ∙ ap (λ (x : List Row). get_elem? x r) g.runs_are ∙ f.is) }

  absent : {b k ta : ℕ} → ¬ (entry b k ta ∈ cache (header t.realm) ρ.log)
      → present (entries t.cache t.realm.entries) (record { b = b; k = k; ta = ta }) ≡ false
  absent {b} {k} {ta} n =
      logged_absent (entries t.cache t.realm.entries) (record { b = b; k = k; ta = ta })
      (subst (λ (c : List Entry). ¬ (entry b k ta ∈ c)) (sym g.cache_is) n)

  pub takes_took : {step r a b m now : ℕ} {act : Act} → Takes (form_at t) (header t.realm) ρ.terms ρ.log (calls.Step step r a b m now) act
      → Met t (calls.Step step r a b m now) act
  takes_took (takes1 i p room f) = by1 (next ρ.log) (next_is t ρ fits g) (record { a_below = i.0; b_below = i.1; apart = p }) room
  takes_took (takes2 i p room) = by2 (next ρ.log) (next_is t ρ fits g) (record { a_below = i.0; b_below = i.1; apart = p }) room
  takes_took (takes3 d p room f) = by3 (next ρ.log) (clock ρ.log) (next_is t ρ fits g) g.clock_is (brings d) p room
  takes_took (takes4 {a = a} {b = b} x e d q i f) =
      let s = stands e in
      by4 (stored (initiator_opened a b)) (clock ρ.log) x fits s.is g.clock_is (meets s refl) (brings d) q i
  takes_took (takes5 {a = a} {b = b} e d i j near n room f) =
      let s = stands e in
      by5 (stored (responder_opened a b)) s.is (meets s refl) (brings d)
      (record {
        timely = record {
          ticket_lives = omega (arith, g.clock_is, i);
          authenticator_lives = omega (arith, g.clock_is, j);
          not_ahead = omega (arith, g.clock_is, near);
        };
        absent = absent n;
        room = omega (arith, cache_length t ρ fits g, room);
      })
  takes_took (takes6 {a = a} {b = b} {k = k} {ts = ts} {ta = ta} e d i) =
      let s = stands e in
      by6 (stored (initiator_authenticated a b k ts ta)) s.is (meets s refl) (brings d) (omega (arith, g.clock_is, i))
  takes_took (takes7 {t = now} i) = record { effect = _; took = took7 {now = now} (omega (arith, g.clock_is, i)); sends = refl }
  takes_took (takes8 i) = record { effect = _; took = took8 i; sends = refl }
  takes_took (takes9 e) = record { effect = _; took = took9 (meets (stands e) refl); sends = refl }
  takes_took (takes10 d) = record { effect = _; took = took10 (brings d); sends = refl }

  -- ---- its terms fit

  -- nothing is added
  none_fit : length ρ.terms ≤ 512
  none_fit =
      subst (λ (ms : List Message). length ms ≤ 512) g.terms_are
      (omega (arith, meanings_length t.terms t.realm.terms, fits.terms_hold.room))

  -- a server's key is there
  key_there : {r : ℕ} {own : Row} → Stands t r own → own.role ≡ Server → insert (key (session r)) ρ.terms ≡ ρ.terms
  key_there {r} s e =
      let h = fits.rows_hold.holds r s.below in
      let k = h.server (ap (λ (x : Row). x.role) s.is ∙ e) in
      insert_present (key (session r)) ρ.terms k.1.place
      (ap (λ (ms : List Message). term_at ms k.1.place) (sym g.terms_are)
      ∙ meanings_at t.terms t.realm.terms k.1.place k.1.below
      ∙ ap some (key_means fits.terms_hold.terms h.key k.1 ∙ ap (λ (i : ℕ). key (session i)) k.0))

  pub takes_fits : {step r a b m now : ℕ} {act : Act} → Takes (form_at t) (header t.realm) ρ.terms ρ.log (calls.Step step r a b m now) act
      → TermsFit act.1 ρ.terms
  takes_fits (takes1 i p room f) = f
  takes_fits (takes2 i p room) = none_fit
  takes_fits (takes3 d p room f) = f
  takes_fits (takes4 x e d q i f) = f
  takes_fits (takes5 e d i j near n room f) = f
  takes_fits (takes6 e d i) = none_fit
  takes_fits (takes7 i) = none_fit
  takes_fits (takes8 i) = none_fit
  takes_fits (takes9 e) = subst (λ (ms : List Message). length ms ≤ 512) (sym (key_there (stands e) refl)) none_fit
  takes_fits (takes10 d) = none_fit
