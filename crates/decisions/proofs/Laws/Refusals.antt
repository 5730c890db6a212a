-- The refusals that a step can have are those of the last column of the table of refusals (document 01, "What turns a record away,
-- from the state"), beside 4 to 6 of its fields and 20; and 15 parts them: it is given where the intruder cannot derive the step's
-- message, and what comes after it only where he can.
-- Assumes nothing.
use Prim.Native.Nat.{ℕ, zero, suc, ◌<◌, ◌≤◌}
use Rattle.std.specs.Prelude.{Bool, false, not, ◌&&◌, cond, List, ◌∷◌, ◌⊎◌, ◌≡◌, leb, eqb, Ok, Err, Option, None, Some}
use Rattle.std.proofs.Math.Bool.{true}
use Rattle.std.proofs.Common.{inl, inr, arith, eq-eqb, ne_eqb}
use Rattle.std.proofs.Math.Path.{refl}
use Rattle.terms.specs.Meaning.{message_at}
use Rattle.sending.specs.Send.{fits_in}
use Rattle.exchange.specs.declared.run.Row.{Row}
use Rattle.exchange.specs.Forms.{form_of}
use Rattle.exchange.specs.Needs.{need_of, meets}
use Rattle.traces.specs.Lists.{◌∈◌, here, there}
use Rattle.forms.specs.Forms.{request_in, confirmation_in}
use Rattle.forms.specs.Grant.{Granted, grant_in}
use Rattle.forms.specs.declared.Confirmation.{Confirmation}
use Rattle.forms.specs.declared.Request.{Request}
use Rattle.forms.specs.Delivery.{delivery_in}
use Rattle.forms.specs.declared.Delivery.{Delivery}
use Rattle.rows.specs.Runs.{run_at}
use Rattle.replay.specs.declared.entry.Entry.{Entry}
use Rattle.realm.specs.declared.header.Realm.{Realm}
use Rattle.realm.specs.declared.input.Step.{Step}
use Rattle.realm.specs.Input.{uses_table, uses_of, unused_zero, in_range, input_refusal}
use Rattle.realm.proofs.InputLaws.{passed}
use Rattle.realm.specs.Tables.{Tables}
use Rattle.conditions.specs.Conditions.{derivable_at, ticket_lives, admission, admission_refusals}
use Rattle.conditions.proofs.Promises.{admission_refusals_lem}
use Rattle.decisions.specs.Effects.{messages_of}
use Rattle.decisions.specs.Decision.{need, room_for_run, on_request, issues, on_grant, authenticates, on_delivery, takes, on_confirmation, finishes, Verdict}
use Rattle.decisions.specs.Decision.{opens_run, ticks, queries, step_of, decided, roomed, decision}
use Rattle.decisions.specs.Refusals.{refusals_of, all_of}
use Rattle.decisions.proofs.Refusals.{field_refusals}

-- whether the intruder can derive the message that the step uses; true where it uses none
unfoldable pub asked_for : Tables → Step → Bool
asked_for t s = cond (uses_of s.step).m (derivable_at t.realm t.terms t.wire s.m) true

-- 15 is given where it cannot be derived, a number above 15 only where it can
pub record Parted (d : Bool) (k : ℕ) : Type 0 where
  pub underivable : k ≡ 15 → d ≡ false
  pub derivable : 15 < k → d ≡ true

-- the verdict takes the step, its message being derivable, or has one of these numbers
abbrev pub Tells : List ℕ → Bool → Verdict → Type 0
Tells ns d (Ok x) = d ≡ true
Tells ns d (Err k) = (k ∈ ns) × Parted d k

under : {d : Bool} (k : ℕ) → k < 15 → Parted d k
under k h = record { underivable = λ e. absurd (omega arith); derivable = λ l. absurd (omega arith) }

over : {d : Bool} (k : ℕ) → 15 < k → d ≡ true → Parted d k
over k h e = record { underivable = λ q. absurd (omega arith); derivable = λ _. e }

tells_need : (ns : List ℕ) (d ok : Bool) (k : ℕ) (v : Verdict) → k ∈ ns → Parted d k → Tells ns d v → Tells ns d (need ok k v)
tells_need ns d true k v i p h = h
tells_need ns d false k v i p h = (i, p)

-- 15 itself
tells_derivable : (ns : List ℕ) (d : Bool) (v : Verdict) → 15 ∈ ns → (d ≡ true → Tells ns d v) → Tells ns d (need d 15 v)
tells_derivable ns true v i h = h refl
tells_derivable ns false v i h = (i, record { underivable = λ _. refl; derivable = λ l. absurd (omega arith) })

-- a number that is 0 where all is well
tells_number : (ns : List ℕ) (d : Bool) (k : ℕ) (v : Verdict) → (k ≡ 0) ⊎ ((k ∈ ns) × Parted d k) → Tells ns d v → Tells ns d (need (eqb k 0) k v)
tells_number ns d k v (inl e) h = rw (eq-eqb k 0 e) h
tells_number ns d k v (inr (i, p)) h = tells_need ns d (eqb k 0) k v i p h

-- ---- the steps that take a message

-- step 5's come after 15
admission_over : {k : ℕ} → k ∈ admission_refusals → 15 < k
admission_over here = omega arith
admission_over (there here) = omega arith
admission_over (there (there here)) = omega arith
admission_over (there (there (there here))) = omega arith
admission_over (there (there (there (there (there x25))))) = elim x25 [ ]
admission_over (there (there (there (there here)))) = omega arith

of_admission : {d : Bool} (k : ℕ) → d ≡ true → (k ≡ 0) ⊎ (k ∈ admission_refusals) → (k ≡ 0) ⊎ ((k ∈ refusals_of 5) × Parted d k)
of_admission k e (inl z) = inl z
of_admission k e (inr i) = inr (there (there (there i)), over k (admission_over i) e)

module _ (h : Realm) (ts ws : List ℕ) (m : ℕ) where
  abbrev can : Bool
  can = derivable_at h ts ws m

  on_request_lem : (q : Option Request) → Tells (refusals_of 3) can (on_request h ts ws m q)
  on_request_lem None = (there here, under 14 (omega arith))
  on_request_lem (Some q) =
      tells_need (refusals_of 3) can (not (eqb q.a 0) && not (eqb q.b 0) && not (eqb q.a q.b)) 14 _ (there here) (under 14 (omega arith))
      (tells_derivable (refusals_of 3) can _ (there (there here)) (λ e. e))

  module _ (r : ℕ) (own : Row) where
    on_grant_lem : (q : Option Granted) → Tells (refusals_of 4) can (on_grant h ts ws r own m q)
    on_grant_lem None = (there here, under 14 (omega arith))
    on_grant_lem (Some q) =
        tells_need (refusals_of 4) can (eqb q.b own.b && eqb q.n r && eqb q.a own.a) 14 _ (there here) (under 14 (omega arith))
        (tells_derivable (refusals_of 4) can _ (there (there here))
        (λ e. tells_need (refusals_of 4) can (ticket_lives h q.ts) 16 _ (there (there (there here))) (over 16 (omega arith) e) e))

    on_delivery_lem : (cache : List Entry) (q : Option Delivery) → Tells (refusals_of 5) can (on_delivery h ts ws cache r own m q)
    on_delivery_lem cache None = (there here, under 14 (omega arith))
    on_delivery_lem cache (Some q) =
        let x : Entry = record { b = q.b; k = q.k; ta = q.ta } in
        tells_need (refusals_of 5) can (eqb q.a own.a && eqb q.b own.b) 14 _ (there here) (under 14 (omega arith))
        (tells_derivable (refusals_of 5) can _ (there (there here))
        (λ e. tells_number (refusals_of 5) can (admission h cache q.ts x) _ (of_admission (admission h cache q.ts x) e (admission_refusals_lem h cache q.ts x)) e))

    on_confirmation_lem : (q : Option Confirmation) → Tells (refusals_of 6) can (on_confirmation h ts ws r own m q)
    on_confirmation_lem None = (there here, under 14 (omega arith))
    on_confirmation_lem (Some q) =
        tells_need (refusals_of 6) can (eqb q.ta own.ta && eqb q.k own.k) 14 _ (there here) (under 14 (omega arith))
        (tells_derivable (refusals_of 6) can _ (there (there here))
        (λ e. tells_need (refusals_of 6) can (ticket_lives h own.ts) 16 _ (there (there (there here))) (over 16 (omega arith) e) e))

-- ---- any step

pub fields_number : (h : Realm) (s : Step) → (input_refusal h s ≡ 0) ⊎ (input_refusal h s ∈ field_refusals)
unfolding input_refusal
fields_number h s = by (leb 1 s.step && leb s.step 10) (unused_zero (uses_of s.step) s) (in_range h (uses_of s.step) s)
  where
    number : Bool → Bool → Bool → ℕ
    number a b c = cond a (cond b (cond c 0 6) 5) 4

    by : (a b c : Bool) → (number a b c ≡ 0) ⊎ (number a b c ∈ field_refusals)
    by true true true = inl refl
    by true true false = inr (there (there here))
    by true false c = inr (there here)
    by false b c = inr here

of_fields : {d : Bool} {k : ℕ} (step : ℕ) → k ∈ field_refusals → (k ∈ all_of step) × Parted d k
of_fields step here = (there here, under 4 (omega arith))
of_fields step (there here) = (there (there here), under 5 (omega arith))
of_fields step (there (there (there x15))) = elim x15 [ ]
of_fields step (there (there here)) = (there (there (there here)), under 6 (omega arith))

not_zero : {k : ℕ} → k ∈ field_refusals → k ≡ 0 → ⊥
not_zero here e = omega arith
not_zero (there here) e = omega arith
not_zero (there (there (there x16))) e = elim x16 [ ]
not_zero (there (there here)) e = omega arith

-- after a test of the run, or of room for one, or of the clock
tested : (step : ℕ) (d ok : Bool) (k : ℕ) (v : Verdict) → k ∈ refusals_of step → k < 15 → Tells (refusals_of step) d v → Tells (refusals_of step) d (need ok k v)
tested step d ok k v i h w = tells_need (refusals_of step) d ok k v i (under k h) w

module _ (t : Tables) where
  abbrev fields : (step r a b m now : ℕ) → Step
  fields step r a b m now = record { step = step; run = r; a = a; b = b; m = m; t = now }

  by_step : (step r a b m now : ℕ) → 1 ≤ step → step ≤ 10 → Tells (refusals_of step) (asked_for t (fields step r a b m now)) (step_of t (fields step r a b m now))
  unfolding step_of opens_run issues authenticates takes finishes ticks queries asked_for uses_table
  by_step zero r a b m now low high = absurd (omega arith)
  by_step (suc zero) r a b m now low high = tested 1 true (room_for_run t.realm) 13 _ here (omega arith) refl
  by_step (suc (suc zero)) r a b m now low high = tested 2 true (room_for_run t.realm) 13 _ here (omega arith) refl
  by_step (suc (suc (suc zero))) r a b m now low high =
      tested 3 (can t.realm t.terms t.wire m) (room_for_run t.realm) 13 _ here (omega arith)
      (on_request_lem t.realm t.terms t.wire m (request_in (message_at t.terms m)))
  by_step (suc (suc (suc (suc zero)))) r a b m now low high =
      let own = run_at t.runs r in
      tested 4 (can t.realm t.terms t.wire m) (meets (need_of 4) own) 11 _ here (omega arith)
      (on_grant_lem t.realm t.terms t.wire m r own (grant_in (form_of t.realm.rules) (message_at t.terms m)))
  by_step (suc (suc (suc (suc (suc zero))))) r a b m now low high =
      let own = run_at t.runs r in
      tested 5 (can t.realm t.terms t.wire m) (meets (need_of 5) own) 11 _ here (omega arith)
      (on_delivery_lem t.realm t.terms t.wire m r own t.cache (delivery_in (message_at t.terms m)))
  by_step (suc (suc (suc (suc (suc (suc zero)))))) r a b m now low high =
      let own = run_at t.runs r in
      tested 6 (can t.realm t.terms t.wire m) (meets (need_of 6) own) 11 _ here (omega arith)
      (on_confirmation_lem t.realm t.terms t.wire m r own (confirmation_in (message_at t.terms m)))
  by_step (suc (suc (suc (suc (suc (suc (suc zero))))))) r a b m now low high = tested 7 true (leb t.realm.clock now) 12 _ here (omega arith) refl
  by_step (suc (suc (suc (suc (suc (suc (suc (suc zero)))))))) r a b m now low high = refl
  by_step (suc (suc (suc (suc (suc (suc (suc (suc (suc zero))))))))) r a b m now low high =
      tested 9 true (meets (need_of 9) (run_at t.runs r)) 11 _ here (omega arith) refl
  by_step (suc (suc (suc (suc (suc (suc (suc (suc (suc (suc zero)))))))))) r a b m now low high =
      let d = can t.realm t.terms t.wire m in
      tells_derivable (refusals_of 10) d _ here (λ e. e)
  by_step (suc (suc (suc (suc (suc (suc (suc (suc (suc (suc (suc step))))))))))) r a b m now low high = absurd (omega arith)

  with_room : (ns : List ℕ) (d : Bool) (v : Verdict) → Tells ns d v → Tells (20 ∷ ns) d (roomed t v)
  with_room ns d (Err k) (i, p) = (there i, p)
  with_room ns d (Ok x) e =
      tells_need (20 ∷ ns) d (fits_in t.terms t.realm.terms (messages_of t.terms x.sends)) 20 (Ok x) here (over 20 (omega arith) e) e

  -- behind its fields, a step has the refusals of the last column and 20
  pub state_tells : (s : Step) → input_refusal t.realm s ≡ 0 → Tells (20 ∷ refusals_of s.step) (asked_for t s) (decision t s)
  unfolding decision decided
  state_tells s e =
      let p = passed t.realm s e in
      rw (eq-eqb (input_refusal t.realm s) 0 e)
      (with_room (refusals_of s.step) (asked_for t s) (step_of t s) (by_step s.step s.run s.a s.b s.m s.t p.low p.high))

  of_state : (step : ℕ) (d : Bool) (v : Verdict) → Tells (20 ∷ refusals_of step) d v → Tells (all_of step) d v
  of_state step d (Ok x) h = h
  of_state step d (Err k) (here, p) = (here, p)
  of_state step d (Err k) (there i, p) = (there (there (there (there i))), p)

  -- its fields come first
  pub fields_refuse : (s : Step) → (input_refusal t.realm s ≡ 0 → ⊥) → decision t s ≡ Err (input_refusal t.realm s)
  unfolding decision decided
  fields_refuse s n = rw (ne_eqb (input_refusal t.realm s) 0 n)

  of_number : (s : Step) → (input_refusal t.realm s ≡ 0) ⊎ (input_refusal t.realm s ∈ field_refusals) → Tells (all_of s.step) (asked_for t s) (decision t s)
  of_number s (inl e) = of_state s.step (asked_for t s) (decision t s) (state_tells s e)
  of_number s (inr i) = rw (fields_refuse s (λ z. not_zero i z)) (of_fields s.step i)

  pub tells : (s : Step) → Tells (all_of s.step) (asked_for t s) (decision t s)
  tells s = of_number s (fields_number t.realm s)
