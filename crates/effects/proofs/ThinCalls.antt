-- Remember and forget are what the steps do: where step 5 or step 8 is accepted, the count and the places of the cache are those
-- that the thin call leaves; where nothing but the cache bars step 5, its refusal is the thin call's.
-- Assumes nothing.
use Rattle.std.specs.Prelude.{ℕ, ◌<◌, ◌≡◌, true, ◌≢◌, eqb, Ok, Err}
use Rattle.std.proofs.Math.Path.{refl}
use Rattle.std.proofs.Common.{sym, ap, ◌∙◌, arith, ne_eqb}
use Rattle.terms.proofs.Choice.{no_true}
use Rattle.terms.specs.Meaning.{message_at}
use Rattle.terms.specs.Message.{pair}
use Rattle.exchange.specs.declared.call.Call.{Call}
use Rattle.exchange.specs.declared.call.Call.TheVariants as calls
use Rattle.exchange.specs.Calls.{accepts}
use Rattle.exchange.specs.declared.run.Role.TheVariants.{Responder}
use Rattle.exchange.specs.declared.run.Stage.TheVariants.{Opened}
use Rattle.kerberos.specs.Log.{Event}
use Rattle.kerberos.specs.Messages.{ticket, authenticator}
use Rattle.replay.specs.Cache.{CacheOutcome, accepted, done, fits, remembered, forgotten}
use Rattle.replay.proofs.CacheLaws.Calls.{fits_is, refusal_none, remembered_ok, forgotten_ok}
use Rattle.replay.specs.declared.entry.Entry.{Entry}
use Rattle.realm.specs.declared.input.Step.{Step}
use Rattle.realm.specs.Fields.{call_of}
use Rattle.realm.specs.Tables.{Tables, Together}
use Rattle.decisions.specs.declared.Effect.{Effect}
use Rattle.decisions.specs.Decision.{need, roomed, decision, Verdict}
use Rattle.decisions.specs.Laws.Took.{row_at, Meets, Brings, Timely, Took, TookAs, took5, took8}
use Rattle.decisions.proofs.Laws.Verdict.{decision_takes}
use Rattle.decisions.proofs.Promises.{taken_as, remembers, delivered}
use Rattle.effects.specs.Apply.{applied}
use Rattle.effects.specs.Cache.{cache_of}
use Rattle.effects.specs.Call.{by_verdict, stepped, called}
use Rattle.effects.proofs.Kept.{step_refused}

module _ (t : Tables) (w : Together t) where
  -- the count and the places of the cache after a call, as the two calls tell them
  abbrev pub cache_left : Call → CacheOutcome
  cache_left c = accepted (called t c).tables.realm.entries (called t c).tables.cache

  -- the same of an effect
  abbrev leaves : Effect → CacheOutcome
  leaves x = done (cache_of t.realm t.cache x.keeping)

  cache_fits : fits t.cache t.realm.entries ≡ true
  cache_fits = fits_is t.cache t.realm.entries w.places w.entries_most

  same : {k a ts b ta k' ts' ta' : ℕ} → pair (ticket k a ts b) (authenticator a ta k) ≡ pair (ticket k' a ts' b) (authenticator a ta' k')
      → ◌≡◌ {A = Entry} (record { b = b; k = k; ta = ta }) (record { b = b; k = k'; ta = ta' })
  same e = cc

  took_remembers : {r a b m now k ts ta : ℕ} {e : Event} {x : Effect} → Took t (calls.Step 5 r a b m now) e x
      → message_at t.terms m ≡ pair (ticket k (row_at t r).a ts (row_at t r).b) (authenticator (row_at t r).a ta k)
      → remembered t.cache t.realm.entries (record { b = (row_at t r).b; k = k; ta = ta }) ≡ leaves x
  took_remembers (took5 v d l) i =
      let count = t.realm.entries in
      let room : count < 16 = l.room in
      ap (remembered t.cache count) (same (sym i ∙ d.is)) ∙ remembered_ok t.cache count _ cache_fits (sym (refusal_none t.cache count _ l.absent (λ z. omega arith)))

  took_forgets : {r a b m now : ℕ} {e : Event} {x : Effect} → Took t (calls.Step 8 r a b m now) e x
      → forgotten t.cache t.realm.entries (record { b = b; clock = t.realm.clock; la = t.realm.la }) ≡ leaves x
  took_forgets (took8 l) = forgotten_ok t.cache t.realm.entries _ cache_fits

  -- an accepted step was taken, with the effect of its row
  by_effect : (s : Step) (o : CacheOutcome) (v : Verdict) → decision t s ≡ v → ((x : Effect) → TookAs t (call_of s) x → o ≡ leaves x)
      → accepts (by_verdict t v).answer ≡ true → o ≡ accepted (by_verdict t v).tables.realm.entries (by_verdict t v).tables.cache
  unfolding applied
  by_effect s o (Ok x) d k q = k x (taken_as t s w (decision_takes t s d).0)
  by_effect s o (Err number) d k q = no_true q

  module _ (r a b m now : ℕ) where
    abbrev fields : ℕ → Step
    fields step = record { step = step; run = r; a = a; b = b; m = m; t = now }

    -- "5 | m is the pair of {K, a, Ts} under b's key and {a, Ta}K; remembers b, K, Ta"; a and b are the run's
    pub step_5_remembers : {k ts ta : ℕ} → message_at t.terms m ≡ pair (ticket k (row_at t r).a ts (row_at t r).b) (authenticator (row_at t r).a ta k)
        → let c = calls.Step 5 r a b m now in accepts (called t c).answer ≡ true
        → remembered t.cache t.realm.entries (record { b = (row_at t r).b; k = k; ta = ta }) ≡ cache_left c
    unfolding called stepped
    step_5_remembers i = by_effect (fields 5) _ (decision t (fields 5)) refl (λ x k. took_remembers k.took i)

    -- "8 | forgets b's entries whose Ta + La is at or below the clock"
    pub step_8_forgets : let c = calls.Step 8 r a b m now in accepts (called t c).answer ≡ true
        → forgotten t.cache t.realm.entries (record { b = b; clock = t.realm.clock; la = t.realm.la }) ≡ cache_left c
    unfolding called stepped
    step_8_forgets = by_effect (fields 8) _ (decision t (fields 8)) refl (λ x k. took_forgets k.took)

  -- "18 | b, K, Ta is in the cache", "19 | the cache holds 16 entries": a delivery that none of 4 to 17 bars, nor 22, has the number
  -- that `remember` of b, K and Ta answers, where it answers one
  pub step_5_refuses : (r m k ts ta : ℕ) → Meets t r Responder Opened → Brings t m (pair (ticket k (row_at t r).a ts (row_at t r).b) (authenticator (row_at t r).a ta k))
      → Timely t ts ta → let number = remembers t w (row_at t r).b k ta in
      number ≢ 0 → (called t (calls.Step 5 r 0 0 m 0)).answer ≡ Err number
  unfolding called decision
  step_5_refuses r m k ts ta v d l n =
      let number = remembers t w (row_at t r).b k ta in
      let s : Step = record { step = 5; run = r; a = 0; b = 0; m = m; t = 0 } in
      (step_refused t s).1 (ap (roomed t) (delivered t w r m k ts ta v d l ∙ barred number _ n))
    where
      barred : (number : ℕ) (v : Verdict) → number ≢ 0 → need (eqb number 0) number v ≡ Err number
      barred number v n = rw (ne_eqb number 0 n)
