-- Where the tables agree with a reading, what a step met in the tables is what the rules ask for.
-- Assumes nothing.
use Rattle.std.specs.Prelude.{ℕ, zero, suc, ◌+◌, ◌<◌, ◌≡◌, refl, false, List, [], ◌∷◌, map, length}
use Rattle.std.proofs.Common.{sym, ap, ◌∙◌, subst, arith, length-take-le}
use Rattle.std.proofs.Math.Option.{some, some-injective}
use Rattle.std.proofs.lemmas.List.{length-map}
use Rattle.std.proofs.Math.ListN.{get_elem?}
use Rattle.terms.specs.Meaning.{message_at}
use Rattle.terms.specs.Message.{Message, session, key}
use Rattle.deduction.proofs.Promises.{monotone}
use Rattle.messages.specs.Listed.{term_at}
use Rattle.messages.proofs.Meanings.{meanings_at}
use Rattle.replay.specs.Cache.{present, entries}
use Rattle.runs.specs.Lent.{PrincipalsFit}
use Rattle.rows.proofs.Promises.{rows_length, rows_at}
use Rattle.exchange.specs.declared.call.Call.{Call}
use Rattle.exchange.specs.declared.call.Call.TheVariants.{Step}
use Rattle.kerberos.specs.Log.{Event}
use Rattle.kerberos.specs.Log.{Initiate, Respond, Issue, Authenticate, Leak}
use Rattle.exchange.specs.declared.run.Role.{Role}
use Rattle.exchange.specs.declared.run.Role.TheVariants.{Initiator, Responder, Server}
use Rattle.exchange.specs.declared.run.Row.{Row}
use Rattle.exchange.specs.declared.run.Stage.{Stage}
use Rattle.exchange.specs.declared.run.Stage.TheVariants.{Opened, Authenticated, Done}
use Rattle.traces.specs.Engines.{Agrees}
use Rattle.kerberos.proofs.Laws.Needs.{At, at_initiator_opened, at_initiator_authenticated, at_responder_opened, at_server_done, meets_at}
use Rattle.traces.specs.Lists.{◌∈◌}
use Rattle.kerberos.specs.Log.{Log, clock, runs, run, next, cache, stored}
use Rattle.traces.specs.RuleSets.{Entry, entry}
use Rattle.kerberos.specs.Log.{Run, initiator_opened, initiator_authenticated, responder_opened}
use Rattle.exchange.specs.Forms.{form_of}
use Rattle.kerberos.specs.Messages.{request, issue, grant, presented}
use Rattle.exchange.specs.Needs.{is_at}
use Rattle.traces.specs.RuleSets.{Reading}
use Rattle.traces.specs.Realm.{Realm}
use Rattle.traces.specs.Conditions.{Delivers, Apart}
use Rattle.kerberos.specs.Rules.{Takes, takes1, takes2, takes3, takes4, takes5, takes6, takes7, takes8, takes9, takes10}
use Rattle.traces.specs.Terms.{TermsFit}
use Rattle.realm.specs.Opening.{header}
use Rattle.decisions.specs.declared.Effect.{Effect}
use Rattle.decisions.specs.Effects.{messages_of}
use Rattle.kerberos.specs.Reading.{set_of}
use Rattle.simulation.proofs.Cached.{absent_logged}
use Rattle.realm.specs.Tables.{Tables, Together}
use Rattle.simulation.specs.Values.{logged, values_of}
use Rattle.decisions.specs.Laws.Took.{form_at, row_at, Meets, Brings, Took, took1, took2, took3, took4, took5, took6, took7, took8, took9, took10}

-- ---- the run that a row is stored from

-- element r of a list of runs, stored as this row
record From (xs : List Run) (r : ℕ) (own : Row) : Type 0 where
  x : Run
  is : get_elem? xs r ≡ some x
  as_row : stored x ≡ own

stored_from : (xs : List Run) (r : ℕ) {own : Row} → get_elem? (map stored xs) r ≡ some own → From xs r own
stored_from [] r e = let z : ◌≡◌ {A = ℕ} 0 1 = cc in absurd (omega arith)
stored_from (x ∷ xs) zero e = record { x = x; is = refl; as_row = some-injective _ _ e }
stored_from (x ∷ xs) (suc r) e = let f = stored_from xs r e in record { x = f.x; is = f.is; as_row = f.as_row }

-- a run by its role and stage and its row
opened_initiator : {x : Run} (own : Row) → At Initiator Opened x → stored x ≡ own → x ≡ initiator_opened own.a own.b
opened_initiator own at_initiator_opened e = rw (← e) refl

opened_responder : {x : Run} (own : Row) → At Responder Opened x → stored x ≡ own → x ≡ responder_opened own.a own.b
opened_responder own at_responder_opened e = rw (← e) refl

authenticated : {x : Run} (own : Row) → At Initiator Authenticated x → stored x ≡ own → x ≡ initiator_authenticated own.a own.b own.k own.ts own.ta
authenticated own at_initiator_authenticated e = rw (← e) refl

-- ---- the rules, with the number of the next run and the clock as the tables have them

module _ {R : Realm} {terms : List Message} {l : Log} where
  by1 : {a b : ℕ} (r : ℕ) → r ≡ next l → PrincipalsFit R.n a b → r < 64 → TermsFit (request a b r ∷ []) terms
      → Takes (form_of R.rules) R terms l (Step 1 0 a b 0 0) (Initiate r a b, request a b r ∷ [])
  by1 r q p room f = rw q (takes1 (p.a_below, p.b_below) p.apart (rw q at room) (rw q at f))

  by2 : {a b : ℕ} (r : ℕ) → r ≡ next l → PrincipalsFit R.n a b → r < 64 → Takes (form_of R.rules) R terms l (Step 2 0 a b 0 0) (Respond r a b, [])
  by2 r q p room = rw q (takes2 (p.a_below, p.b_below) p.apart (rw q at room))

  by3 : {m a b n : ℕ} (r now : ℕ) → r ≡ next l → now ≡ clock l → Delivers R terms l m (request a b n) → Apart a b → r < 64
      → let f = form_of R.rules in TermsFit (issue f r a b now n) terms → Takes f R terms l (Step 3 0 0 0 m 0) (Issue r a b now n, issue f r a b now n)
  by3 r now q c d p room f = rw (q, c) (takes3 d p (rw q at room) (rw (q, c) at f))

  by4 : {r m a b k ts : ℕ} (now : ℕ) (x : Message) → now ≡ clock l → run l r ≡ some (initiator_opened a b) → let f = form_of R.rules in
      Delivers R terms l m (grant f k b ts r a x) → now < ts + R.ticket_life → TermsFit (presented f a now k x) terms
      → Takes f R terms l (Step 4 r 0 0 m 0) (Authenticate r a b k ts now, presented f a now k x)
  by4 now x c e d i f = rw c (takes4 x e d refl (rw c at i) (rw c at f))

  by9 : {r : ℕ} {x : Run} → At Server Done x → run l r ≡ some x → Takes (form_of R.rules) R terms l (Step 9 r 0 0 0 0) (Leak r, key (session r) ∷ [])
  by9 at_server_done e = takes9 e

-- ---- a step that was taken

module _ (t : Tables) (ρ : Reading Event) (fits : Together t) (g : Agrees (set_of (header t.realm)) (header t.realm) (values_of (header t.realm) t) ρ) where
  -- the next run has the number of the count
  pub next_is : t.realm.runs ≡ next ρ.log
  next_is = sym (rows_length t.runs t.realm.runs) ∙ ap length g.runs_are ∙ length-map (runs ρ.log) stored

  pub delivers : {m : ℕ} {x : Message} → Brings t m x → Delivers (header t.realm) ρ.terms ρ.log m x
  delivers {m} b =
      record {
        form = ap (λ (ms : List Message). term_at ms m) (sym g.terms_are) ∙ meanings_at t.terms t.realm.terms m b.below ∙ ap some b.is;
        derivable = monotone (λ x k. (g.wire_is x).0 k) b.derivable;
      }

  from_log : {r : ℕ} {role : Role} {stage : Stage} → Meets t r role stage → From (runs ρ.log) r (row_at t r)
  from_log {r} w = stored_from (runs ρ.log) r (ap (λ (x : List Row). get_elem? x r) (sym g.runs_are) ∙ rows_at t.runs t.realm.runs r w.below)

  at_log : {r : ℕ} {role : Role} {stage : Stage} (w : Meets t r role stage) → At role stage (from_log w).x
  at_log {r} {role} {stage} w = meets_at (from_log w).x role stage (ap (λ (own : Row). is_at own role stage) (from_log w).as_row ∙ w.at)

  pub cache_length : length (cache (header t.realm) ρ.log) ≡ t.realm.entries
  cache_length =
      let xs = entries t.cache t.realm.entries in
      ap length (sym g.cache_is) ∙ length-map xs logged ∙ length-take-le t.realm.entries t.cache (omega (arith, fits.places, fits.entries_most))

  not_cached : {b k ta : ℕ} → present (entries t.cache t.realm.entries) (record { b = b; k = k; ta = ta }) ≡ false
      → ¬ (entry b k ta ∈ cache (header t.realm) ρ.log)
  not_cached {b} {k} {ta} e =
      subst (λ (c : List Entry). ¬ (entry b k ta ∈ c)) g.cache_is
      (absent_logged (entries t.cache t.realm.entries) (record { b = b; k = k; ta = ta }) e)

  pub taken : {c : Call} {e : Event} {x : Effect} → Took t c e x → TermsFit (messages_of t.terms x.sends) ρ.terms
      → Takes (form_at t) (header t.realm) ρ.terms ρ.log c (e, messages_of t.terms x.sends)
  taken (took1 p room) f = by1 t.realm.runs next_is p room f
  taken (took2 p room) f = by2 t.realm.runs next_is p room
  taken (took3 d p room) f = by3 t.realm.runs t.realm.clock next_is g.clock_is (delivers d) p room f
  taken (took4 {x = x} w d c i) f =
      by4 t.realm.clock (message_at t.terms x) g.clock_is ((from_log w).is ∙ ap some (opened_initiator _ (at_log w) (from_log w).as_row)) (delivers d) i f
  taken (took5 w d i) f =
      takes5 ((from_log w).is ∙ ap some (opened_responder _ (at_log w) (from_log w).as_row)) (delivers d) (omega (arith, g.clock_is, i.timely.ticket_lives))
      (omega (arith, g.clock_is, i.timely.authenticator_lives)) (omega (arith, g.clock_is, i.timely.not_ahead)) (not_cached i.absent) (omega (arith, cache_length, i.room)) f
  taken (took6 w d i) f =
      takes6 ((from_log w).is ∙ ap some (authenticated _ (at_log w) (from_log w).as_row)) (delivers d) (omega (arith, g.clock_is, i))
  taken (took7 {now} h) f = takes7 {t = now} (omega (arith, g.clock_is, h))
  taken (took8 h) f = takes8 h
  taken (took9 w) f = by9 (at_log w) (from_log w).is
  taken (took10 d) f = takes10 (delivers d)
