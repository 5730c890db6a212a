-- The verdict from what is met: a step that has met what its row of the step table asks for is decided to be taken, with that effect.
-- Assumes nothing.
use Rattle.std.specs.Prelude.{ℕ, ◌+◌, ◌<◌, ◌≤◌, ◌≡◌, Bool, false, ◌&&◌, ◌||◌, ◌↔◌, ltb, leb, Ok, Err}
use Rattle.std.proofs.Math.Path.{refl, ap}
use Rattle.std.proofs.Common.{sym, ◌∙◌, subst, arith}
use Rattle.std.proofs.Math.Bool.{true, not}
use borrow.Author.Tests.{lt-ltb, leb-false, le-leb, lt-leb, eq-eqb, ne_eqb}
use Rattle.std.proofs.Math.Dec.{eqb}
use Rattle.terms.specs.Choice.{Decides}
use Rattle.terms.specs.Meaning.{message_at}
use Rattle.terms.specs.Message.{Message, pair}
use Rattle.deduction.specs.Derives.{Derives}
use Rattle.deduction.specs.Known.{Known}
use Rattle.synthesis.proofs.Promises.{function_exact}
use Rattle.sending.specs.Send.{fits_in}
use Rattle.forms.proofs.Promises.{is_request, is_grant, is_confirmation, is_delivery}
use Rattle.runs.specs.Lent.{PrincipalsFit, principals_fit}
use Rattle.runs.proofs.Promises.{principals_decided}
use Rattle.exchange.specs.declared.call.Call.TheVariants as calls
use Rattle.exchange.specs.declared.run.Role.TheVariants.{Responder}
use Rattle.exchange.specs.declared.run.Stage.TheVariants.{Opened}
use Rattle.exchange.specs.Needs.{need_table}
use Rattle.kerberos.specs.Messages.{request, grant, ticket, authenticator, confirmation}
use Rattle.kerberos.specs.Log.{Event}
use Rattle.traces.specs.Conditions.{Apart}
use Rattle.realm.specs.declared.header.Realm.{Realm}
use Rattle.realm.specs.declared.input.Step.{Step}
use Rattle.realm.specs.declared.input.Uses.{Uses}
use Rattle.realm.specs.Input.{uses_table, uses_of, unused_zero, in_range, input_refusal}
use Rattle.realm.proofs.InputLaws.{passed_back}
use Rattle.realm.specs.Tables.{Tables, Together}
use Rattle.realm.specs.Fields.{call_of}
use Rattle.replay.specs.Cache.{number_of, remembered}
use Rattle.replay.specs.Cache.{fits as fitting}
use Rattle.replay.proofs.CacheLaws.Calls.{fits_is, refusal_none}
use Rattle.replay.proofs.Promises.{remember_number}
use Rattle.replay.specs.declared.entry.Entry.{Entry}
use Rattle.conditions.specs.Conditions.{derivable_at, ticket_lives, admission}
use Rattle.conditions.proofs.Promises.{admission_ahead, admission_remembers}
use Rattle.decisions.specs.declared.Effect.{Effect}
use Rattle.decisions.specs.Effects.{issuing, authenticating, accepting, finishing, messages_of}
use Rattle.decisions.specs.Decision.{need, on_request, issues, on_grant, authenticates, on_delivery, takes, on_confirmation, finishes, Verdict}
use Rattle.decisions.specs.Decision.{opens_run, ticks, queries, step_of, decided, roomed, decision}
use Rattle.messages.proofs.Parts.{number_here}
use Rattle.decisions.specs.Laws.Took.{row_at, form_at, Meets, Brings, PassesOn, Timely, Admits, Took, took1, took2, took3, took4, took5, took6, took7, took8, took9, took10}

-- ---- conditions that are met

met : (ok : Bool) (number : ℕ) (v : Verdict) {w : Verdict} → ok ≡ true → v ≡ w → need ok number v ≡ w
met ok number v p q = rw p q

answers : {P : Type 0} (answer : Bool) → Decides answer P → P → answer ≡ true
answers true d p = refl
answers false d p = absurd (d.no refl p)

equal : (x : ℕ) → eqb x x ≡ true
equal x = eq-eqb x x refl

twice : (x y : ℕ) → (eqb x x && eqb y y) ≡ true
twice x y = rw (equal x, equal y)

-- ---- the fields

abbrev pub fields : (step r a b m now : ℕ) → Step
fields step r a b m now = record { step = step; run = r; a = a; b = b; m = m; t = now }

-- each field that is used is in range, by its test
record Ranges (h : Realm) (u : Uses) (s : Step) : Type 0 where
  run : (not u.run || ltb s.run h.runs) ≡ true
  principals : (not u.a || principals_fit h.n s.a s.b) ≡ true
  b : (not u.b || ltb s.b h.n) ≡ true
  m : (not u.m || ltb s.m h.terms) ≡ true

ranges : (h : Realm) (u : Uses) (s : Step) → Ranges h u s → in_range h u s ≡ true
unfolding in_range
ranges h u s x = all _ _ _ _ x.run x.principals x.b x.m
  where
    all : (p q i j : Bool) → p ≡ true → q ≡ true → i ≡ true → j ≡ true → (p && q && i && j) ≡ true
    all p q i j e f g k = rw (e, f, g, k)

module _ (t : Tables) (fits : Together t) where
  -- 4, 5 and 6 do not bar it: its row decides
  decided_by : (s : Step) {v : Verdict} → 1 ≤ s.step → s.step ≤ 10 → unused_zero (uses_of s.step) s ≡ true → Ranges t.realm (uses_of s.step) s
      → step_of t s ≡ v → decided t s ≡ v
  unfolding decided
  decided_by s low high unused range q =
      let p = passed_back t.realm s (record { low = low; high = high; unused = unused; range = ranges t.realm (uses_of s.step) s range }) in
      met (eqb (input_refusal t.realm s) 0) (input_refusal t.realm s) (step_of t s) (eq-eqb _ 0 p) q

  -- 15 does not bar it
  derivable : (m : ℕ) {x : Message} → Brings t m x → derivable_at t.realm t.terms t.wire m ≡ true
  derivable m k =
      answers (derivable_at t.realm t.terms t.wire m) (function_exact t.realm.flags fits.terms_hold fits.wire_words m k.below)
      (subst (Derives t.realm.n t.realm.flags (Known t.terms t.realm.terms t.wire)) (sym k.is) k.derivable)

  -- what `remember` of b, K, Ta answers, as a number: 0 where 18 and 19 do not bar it
  abbrev pub remembers : (b k ta : ℕ) → ℕ
  remembers b k ta = number_of (remembered t.cache t.realm.entries (record { b = b; k = k; ta = ta }))

  cache_fits : fitting t.cache t.realm.entries ≡ true
  cache_fits = fits_is t.cache t.realm.entries fits.places fits.entries_most

  admitted : (ts b k ta : ℕ) → Admits t ts b k ta → remembers b k ta ≡ 0
  admitted ts b k ta d =
      let e : Entry = record { b = b; k = k; ta = ta } in
      let room : t.realm.entries < 16 = d.room in
      remember_number t.cache t.realm.entries e cache_fits ∙ sym (refusal_none t.cache t.realm.entries e d.absent (λ z. omega arith))

  -- ---- the steps that take a message

  issues_on : (m a b n : ℕ) → Brings t m (request a b n) → Apart a b → t.realm.runs < 64
      → issues t.realm t.terms t.wire m ≡ Ok (issuing t.realm.clock (form_at t) t.realm.runs a b n)
  unfolding issues
  issues_on m a b n k p room =
      met (ltb t.realm.runs 64) _ _ (lt-ltb t.realm.runs 64 room)
      (ap (on_request t.realm t.terms t.wire m) ((is_request (message_at t.terms m) (record { a = a; b = b; n = n })).1 k.is)
      ∙ met (not (eqb a 0) && not (eqb b 0) && not (eqb a b)) _ _ apart (met (derivable_at t.realm t.terms t.wire m) _ _ (derivable m k) refl))
    where
      apart : (not (eqb a 0) && not (eqb b 0) && not (eqb a b)) ≡ true
      apart = rw (ne_eqb a 0 p.a_not_server, ne_eqb b 0 p.b_not_server, ne_eqb a b p.unequal)

  authenticates_on : (r m k ts x : ℕ) → Brings t m (grant (form_at t) k (row_at t r).b ts r (row_at t r).a (message_at t.terms x)) → PassesOn t m x
      → t.realm.clock < ts + t.realm.ls
      → authenticates t.realm t.terms t.wire r (row_at t r) m ≡ Ok (authenticating t.realm.clock (form_at t) r (row_at t r).a (row_at t r).b k ts x)
  unfolding authenticates
  authenticates_on r m k ts x d c l =
      ap (on_grant t.realm t.terms t.wire r (row_at t r) m)
      ((is_grant (message_at t.terms m) (form_at t) (record { k = k; b = (row_at t r).b; ts = ts; n = r; a = (row_at t r).a; x = message_at t.terms x })).1 (d.is, c.is))
      ∙ met (eqb (row_at t r).b (row_at t r).b && eqb r r && eqb (row_at t r).a (row_at t r).a) _ _ (own (row_at t r).b (row_at t r).a)
      (met (derivable_at t.realm t.terms t.wire m) _ _ (derivable m d) (met (ticket_lives t.realm ts) _ _ (lt-ltb _ _ l)
      (ap (λ (i : ℕ). Ok (authenticating t.realm.clock (form_at t) r (row_at t r).a (row_at t r).b k ts i)) (number_here fits.terms_hold x c.below))))
    where
      own : (b a : ℕ) → (eqb b b && eqb r r && eqb a a) ≡ true
      own b a = rw (equal b, equal r, equal a)

  -- step 5 with a delivery for the run: `admission` decides
  abbrev admitting : (r k ts ta : ℕ) → ℕ → Verdict
  admitting r k ts ta number = need (eqb number 0) number (Ok (accepting t.realm.clock r (row_at t r).a (row_at t r).b k ts ta))

  takes_on : (r m k ts ta : ℕ) → Brings t m (pair (ticket k (row_at t r).a ts (row_at t r).b) (authenticator (row_at t r).a ta k))
      → takes t.realm t.terms t.wire t.cache r (row_at t r) m
      ≡ admitting r k ts ta (admission t.realm t.cache ts (record { b = (row_at t r).b; k = k; ta = ta }))
  unfolding takes
  takes_on r m k ts ta d =
      ap (on_delivery t.realm t.terms t.wire t.cache r (row_at t r) m)
      ((is_delivery (message_at t.terms m) (record { k = k; a = (row_at t r).a; ts = ts; b = (row_at t r).b; ta = ta })).1 d.is)
      ∙ met (eqb (row_at t r).a (row_at t r).a && eqb (row_at t r).b (row_at t r).b) _ _ (twice (row_at t r).a (row_at t r).b)
      (met (derivable_at t.realm t.terms t.wire m) _ _ (derivable m d) refl)

  finishes_on : (r m : ℕ) → Brings t m (confirmation (row_at t r).ta (row_at t r).k) → t.realm.clock < (row_at t r).ts + t.realm.ls
      → finishes t.realm t.terms t.wire r (row_at t r) m
      ≡ Ok (finishing t.realm.clock r (row_at t r).a (row_at t r).b (row_at t r).k (row_at t r).ts (row_at t r).ta)
  unfolding finishes
  finishes_on r m d l =
      ap (on_confirmation t.realm t.terms t.wire r (row_at t r) m) ((is_confirmation (message_at t.terms m) (record { ta = (row_at t r).ta; k = (row_at t r).k })).1 d.is)
      ∙ met (eqb (row_at t r).ta (row_at t r).ta && eqb (row_at t r).k (row_at t r).k) _ _ (twice (row_at t r).ta (row_at t r).k)
      (met (derivable_at t.realm t.terms t.wire m) _ _ (derivable m d) (met (ticket_lives t.realm (row_at t r).ts) _ _ (lt-ltb _ _ l) refl))

  -- ---- by the rows of the step table

  -- the fields of 1 and 2; of 3 and 10; of 4, 5 and 6
  opens_in : (step a b : ℕ) → PrincipalsFit t.realm.n a b → Ranges t.realm (uses_of 1) (fields step 0 a b 0 0)
  unfolding uses_table
  opens_in step a b p = record { run = refl; principals = (principals_decided t.realm.n a b).1 p; b = lt-ltb b t.realm.n p.b_below; m = refl }

  message_in : (step m : ℕ) → m < t.realm.terms → Ranges t.realm (uses_of 3) (fields step 0 0 0 m 0)
  unfolding uses_table
  message_in step m l = record { run = refl; principals = refl; b = refl; m = lt-ltb m t.realm.terms l }

  takes_in : (step r m : ℕ) → r < t.realm.runs → m < t.realm.terms → Ranges t.realm (uses_of 4) (fields step r 0 0 m 0)
  unfolding uses_table
  takes_in step r m i j = record { run = lt-ltb r t.realm.runs i; principals = refl; b = refl; m = lt-ltb m t.realm.terms j }

  -- step 5 past 15: the number of `admission`, or else it is taken
  delivers : (r m k ts ta : ℕ) → Meets t r Responder Opened → Brings t m (pair (ticket k (row_at t r).a ts (row_at t r).b) (authenticator (row_at t r).a ta k))
      → decided t (fields 5 r 0 0 m 0) ≡ admitting r k ts ta (admission t.realm t.cache ts (record { b = (row_at t r).b; k = k; ta = ta }))
  unfolding step_of uses_table need_table
  delivers r m k ts ta w d =
      decided_by (fields 5 r 0 0 m 0) (omega arith) (omega arith) refl (takes_in 5 r m w.below d.below) (met _ _ _ w.at (takes_on r m k ts ta d))

  -- no other way gives 22
  only_22 : (ok : Bool) (number : ℕ) (x : Effect) → roomed t (need ok number (Ok x)) ≡ Err 22 → number ≡ 22
  only_22 false number x z = cc
  only_22 true number x z = absurd (by (fits_in t.terms t.realm.terms (messages_of t.terms x.sends)) z)
    where
      by : (ok : Bool) → need ok 20 (Ok x) ≡ Err 22 → ⊥
      by true z = let z : ◌≡◌ {A = ℕ} 0 1 = cc in omega arith
      by false z = let z : ◌≡◌ {A = ℕ} 20 22 = cc in omega arith

  -- past 17: 22 exactly where the time is ahead, whatever the cache holds and whether or not the terms fit
  pub ahead_exact : (r m k ts ta : ℕ) → Meets t r Responder Opened → Brings t m (pair (ticket k (row_at t r).a ts (row_at t r).b) (authenticator (row_at t r).a ta k))
      → t.realm.clock < ts + t.realm.ls → t.realm.clock < ta + t.realm.la → (decision t (fields 5 r 0 0 m 0) ≡ Err 22) ↔ (t.realm.clock + t.realm.la < ta)
  unfolding decision
  ahead_exact r m k ts ta w d l o =
      let e : Entry = record { b = (row_at t r).b; k = k; ta = ta } in
      let number = admission t.realm t.cache ts e in
      let q = ap (roomed t) (delivers r m k ts ta w d) in
      let p = admission_ahead t.realm t.cache ts e (lt-ltb _ _ l) (lt-ltb _ _ o) in (
        λ z. leb-false ta (t.realm.clock + t.realm.la) (p.0 (only_22 (eqb number 0) number _ (sym q ∙ z))),
        λ h. q ∙ ap (λ (n : ℕ). roomed t (admitting r k ts ta n)) (p.1 (lt-leb ta (t.realm.clock + t.realm.la) h)),
      )

  -- past 22: the number that `remember` answers, or else it is taken
  pub delivered : (r m k ts ta : ℕ) → Meets t r Responder Opened → Brings t m (pair (ticket k (row_at t r).a ts (row_at t r).b) (authenticator (row_at t r).a ta k))
      → Timely t ts ta → let number = remembers (row_at t r).b k ta in
      decided t (fields 5 r 0 0 m 0) ≡ need (eqb number 0) number (Ok (accepting t.realm.clock r (row_at t r).a (row_at t r).b k ts ta))
  delivered r m k ts ta w d l =
      let e : Entry = record { b = (row_at t r).b; k = k; ta = ta } in
      delivers r m k ts ta w d
      ∙ ap (admitting r k ts ta)
      (admission_remembers t.realm t.cache ts e (lt-ltb _ _ l.ticket_lives) (lt-ltb _ _ l.authenticator_lives) (le-leb _ _ l.not_ahead) cache_fits)

  took_by : {step r a b m now : ℕ} {e : Event} {x : Effect} → Took t (calls.Step step r a b m now) e x → decided t (fields step r a b m now) ≡ Ok x
  unfolding step_of uses_table need_table opens_run ticks queries
  took_by (took1 {a} {b} p room) =
      decided_by (fields 1 0 a b 0 0) (omega arith) (omega arith) refl (opens_in 1 a b p)
      (met (ltb t.realm.runs 64) _ _ (lt-ltb t.realm.runs 64 room) refl)
  took_by (took2 {a} {b} p room) =
      decided_by (fields 2 0 a b 0 0) (omega arith) (omega arith) refl (opens_in 2 a b p)
      (met (ltb t.realm.runs 64) _ _ (lt-ltb t.realm.runs 64 room) refl)
  took_by (took3 {m} {a} {b} {n} k p room) =
      decided_by (fields 3 0 0 0 m 0) (omega arith) (omega arith) refl (message_in 3 m k.below) (issues_on m a b n k p room)
  took_by (took4 {r} {m} {k} {ts} {x} w d c l) =
      decided_by (fields 4 r 0 0 m 0) (omega arith) (omega arith) refl (takes_in 4 r m w.below d.below)
      (met _ _ _ w.at (authenticates_on r m k ts x d c l))
  took_by (took5 {r} {m} {k} {ts} {ta} w d l) =
      delivered r m k ts ta w d l.timely ∙ met _ _ _ (eq-eqb (remembers (row_at t r).b k ta) 0 (admitted ts (row_at t r).b k ta l)) refl
  took_by (took6 {r} {m} w d l) =
      decided_by (fields 6 r 0 0 m 0) (omega arith) (omega arith) refl (takes_in 6 r m w.below d.below)
      (met _ _ _ w.at (finishes_on r m d l))
  took_by (took7 {now} l) =
      decided_by (fields 7 0 0 0 0 now) (omega arith) (omega arith) refl (record { run = refl; principals = refl; b = refl; m = refl })
      (met (leb t.realm.clock now) _ _ (le-leb t.realm.clock now l) refl)
  took_by (took8 {b} l) =
      decided_by (fields 8 0 0 b 0 0) (omega arith) (omega arith) refl (record { run = refl; principals = refl; b = lt-ltb b t.realm.n l; m = refl }) refl
  took_by (took9 {r} w) =
      decided_by (fields 9 r 0 0 0 0) (omega arith) (omega arith) refl
      (record { run = lt-ltb r t.realm.runs w.below; principals = refl; b = refl; m = refl }) (met _ _ _ w.at refl)
  took_by (took10 {m} k) =
      decided_by (fields 10 0 0 0 m 0) (omega arith) (omega arith) refl (message_in 10 m k.below)
      (met (derivable_at t.realm t.terms t.wire m) _ _ (derivable m k) refl)

pub took_decided : (t : Tables) → Together t → (s : Step) {e : Event} {x : Effect} → Took t (call_of s) e x → decided t s ≡ Ok x
took_decided t fits s k = took_by t fits k
