-- What follows from the definitions of the same name in specs/.
-- Assumes nothing.
use Rattle.std.specs.Prelude.{ℕ, zero, suc, ◌<◌, Bool, true, false, ◌⊎◌, ◌≡◌, Ok, Err}
use Rattle.std.proofs.Math.Bool.{cond}
use Rattle.std.proofs.Common.{inl, inr, sym, ap, ◌∙◌, subst, arith, ne_eqb}
use Rattle.std.proofs.Math.Path.{refl}
use Rattle.std.proofs.Math.Decide.{ℕ_discrete, dec_lt}
use Rattle.terms.proofs.Choice.{no_true}
use Rattle.terms.specs.Meaning.{message_at}
use Rattle.terms.specs.Message.{Message}
use Rattle.deduction.specs.Derives.{Derives}
use Rattle.deduction.specs.Known.{Known}
use Rattle.synthesis.proofs.Promises.{function_exact}
use Rattle.traces.specs.Lists.{◌∈◌, here, there}
use Rattle.realm.specs.declared.input.Step.{Step}
use Rattle.realm.proofs.Fields.{in_range_lem}
use Rattle.realm.specs.Input.{uses_table, uses_of, input_refusal}
use Rattle.realm.proofs.InputLaws.{passed}
use Rattle.realm.specs.Tables.{Tables, Together}
use Rattle.conditions.specs.Conditions.{derivable_at}
use Rattle.decisions.specs.Decision.{decided, decision, Verdict}
use Rattle.decisions.proofs.Laws.Refusals.{asked_for, Parted, Tells, tells, fields_number}
use Rattle.decisions.specs.Laws.Took.{Brings}
use Rattle.decisions.proofs.Laws.Verdict.{brings}
use Rattle.decisions.specs.Refusals.{refusals_of, all_of}
use Rattle.decisions.proofs.Refusals.{field_refusals}
use Rattle.decisions.specs.Laws.Underivable.{Reached}

-- a step that can have 15 uses a message
asks : (step : ℕ) → 15 ∈ refusals_of step → (uses_of step).m ≡ true
unfolding uses_table
asks zero i = elim i [ ]
asks (suc zero) (there i) = elim i [ ]
asks (suc (suc zero)) (there i) = elim i [ ]
asks (suc (suc (suc zero))) i = refl
asks (suc (suc (suc (suc zero)))) i = refl
asks (suc (suc (suc (suc (suc zero))))) i = refl
asks (suc (suc (suc (suc (suc (suc zero)))))) i = refl
asks (suc (suc (suc (suc (suc (suc (suc zero))))))) (there i) = elim i [ ]
asks (suc (suc (suc (suc (suc (suc (suc (suc zero)))))))) i = elim i [ ]
asks (suc (suc (suc (suc (suc (suc (suc (suc (suc zero))))))))) (there i) = elim i [ ]
asks (suc (suc (suc (suc (suc (suc (suc (suc (suc (suc zero)))))))))) i = refl
asks (suc (suc (suc (suc (suc (suc (suc (suc (suc (suc (suc step))))))))))) i = elim i [ ]

-- 15 is none of 20, 4, 5 and 6
of_state : (step : ℕ) → 15 ∈ all_of step → 15 ∈ refusals_of step
of_state step (there (there (there (there i)))) = i

-- a refusal of the fields comes before 15
fields_before : {k : ℕ} → k ∈ field_refusals → k < 15
fields_before here = omega arith
fields_before (there here) = omega arith
fields_before (there (there (there x15))) = elim x15 [ ]
fields_before (there (there here)) = omega arith

module _ (t : Tables) (w : Together t) (s : Step) where
  abbrev can : Bool
  can = derivable_at t.realm t.terms t.wire s.m

  -- one that gets as far as 15 has passed the refusals of its fields
  fields_pass : Reached (decision t s) → input_refusal t.realm s ≡ 0
  unfolding decision decided
  fields_pass f = by (fields_number t.realm s) (ℕ_discrete (input_refusal t.realm s) 0)
    where
      by : (input_refusal t.realm s ≡ 0) ⊎ (input_refusal t.realm s ∈ field_refusals) → Dec (input_refusal t.realm s ≡ 0) → input_refusal t.realm s ≡ 0
      by (inl e) d = e
      by (inr i) (yes e) = e
      by (inr i) (no n) = absurd (f (input_refusal t.realm s) (fields_before i) (rw (ne_eqb (input_refusal t.realm s) 0 n)))

  -- and one whose message can be derived brings it
  reached_brings : 15 ∈ refusals_of s.step → Reached (decision t s) → asked_for t s ≡ true → Brings t s.m (message_at t.terms s.m)
  unfolding asked_for
  reached_brings i f e =
      let uses = asks s.step i in
      let q = passed t.realm s (fields_pass f) in
      brings t w s.m (message_at t.terms s.m) ((in_range_lem t.realm (uses_of s.step) s q.range).m uses) refl
      (sym (ap (λ (u : Bool). cond u can true) uses) ∙ e)

  asked : (u : Bool) → cond u can true ≡ false → can ≡ false
  asked true e = e
  asked false e = no_true (sym e)

  underivable : asked_for t s ≡ false → (x : Message) → ¬ (Brings t s.m x)
  unfolding asked_for
  underivable e x b =
      (function_exact t.realm.flags w.terms_hold w.wire_words s.m b.below).no (asked (uses_of s.step).m e)
      (subst (Derives t.realm.n t.realm.flags (Known t.terms t.realm.terms t.wire)) (sym b.is) b.derivable)

  pub told : decision t s ≡ Err 15 → (15 ∈ refusals_of s.step) × ((x : Message) → ¬ (Brings t s.m x)) × Reached (decision t s)
  told e =
      let p = subst (Tells (all_of s.step) (asked_for t s)) e (tells t s) in
      (of_state s.step p.0, underivable (p.1.underivable refl), λ k h q. other (sym e ∙ q) h)
    where
      other : {k : ℕ} → ◌≡◌ {A = Verdict} (Err 15) (Err k) → k < 15 → ⊥
      other {k} q h = let z : ◌≡◌ {A = ℕ} 15 k = cc in omega arith

  pub told_back : 15 ∈ refusals_of s.step → ((x : Message) → ¬ (Brings t s.m x)) → Reached (decision t s) → decision t s ≡ Err 15
  told_back i none f = by (decision t s) refl (tells t s)
    where
      never : {A : Type 0} → asked_for t s ≡ true → A
      never e = absurd (none (message_at t.terms s.m) (reached_brings i f e))

      at : (k : ℕ) → decision t s ≡ Err k → Parted (asked_for t s) k → Dec (k ≡ 15) → Dec (15 < k) → decision t s ≡ Err 15
      at k e p (yes q) l = e ∙ ap Err q
      at k e p (no n) (yes l) = never (p.derivable l)
      at k e p (no n) (no l) = absurd (f k (omega arith) e)

      by : (v : Verdict) → decision t s ≡ v → Tells (all_of s.step) (asked_for t s) v → decision t s ≡ Err 15
      by (Ok x) e h = never h
      by (Err k) e h = at k e h.1 (ℕ_discrete k 15) (dec_lt 15 k)
