-- Each way out of a whole step, and what the fields of a step that passes name.
-- Assumes nothing.
use Rattle.std.specs.Prelude.{ℕ, ◌<◌, ◌≤◌, List, true, false, ◌≡◌, refl, Result, Ok, Err, MatchResult, IsOkAnd}
use Rattle.std.proofs.Math.Decide.{dec_lt}
use Rattle.std.proofs.Common.{arith, inl, inr, subst, sym, ap, ◌∙◌}
use borrow.Author.Tests.{lt-ltb, le-ltb, le-leb, lt-leb, eq-eqb, ne_eqb}
use Rattle.refusals.specs.declared.Refusal.{Refusal}
use Rattle.refusals.specs.Numbers.{number, numbered}
use Rattle.receiving.specs.declared.Pending.{Pending}
use Rattle.receiving.specs.declared.Pending.TheVariants.{Settled}
use Rattle.receiving.specs.Pending.{asks}
use Rattle.decisions.specs.declared.Effect.{Effect}
use Rattle.exchange.specs.declared.run.Role.{Role}
use Rattle.exchange.specs.declared.run.Role.TheVariants.{Initiator, Responder}
use Rattle.exchange.specs.declared.run.Row.{Row}
use Rattle.exchange.specs.declared.run.Stage.TheVariants.{Opened}
use Rattle.exchange.specs.Needs.{need_of, meets}
use Rattle.rows.specs.Runs.{run_at}
use Rattle.realm.specs.declared.header.Realm.{Realm}
use Rattle.realm.specs.declared.input.Step.{Step}
use Rattle.realm.proofs.Fields.{Range, in_range_lem}
use Rattle.realm.specs.Input.{uses_table, uses_of, in_range, input_refusal}
use Rattle.realm.proofs.InputLaws.{passed}
use Rattle.realm.specs.Tables.{Tables}
use Rattle.conditions.specs.Conditions.{derivable_at}
use Rattle.decisions.specs.declared.Sends.{Sends}
use Rattle.decisions.specs.declared.Sends.TheVariants.{Request, Nothing}
use Rattle.decisions.specs.Effects.{opening, nothing, forgetting, leaking}
use Rattle.decisions.specs.Decision.{Verdict, need, issues, authenticates, takes, finishes, opens_run, ticks, queries, step_of, decided}
use Rattle.steps.specs.Named.{NamesRun, Named, Pends}
use Rattle.terms.proofs.Choice.{no_true}

-- ---- a verdict that hangs on nothing

module _ {h : Realm} {ts : List ℕ} {m : ℕ} {verdict : List ℕ → Verdict} where
  -- one that is settled, as `map` makes it of a verdict
  pub settles : (v : Result Effect Refusal) (p : Result Pending Refusal)
      → MatchResult v (λ x. IsOkAnd p (λ (q : Pending). q ≡ Settled x)) (λ e. p ≡ Err e) → ((ws : List ℕ) → numbered v ≡ verdict ws) → Pends h ts m p verdict
  settles (Ok x) (Ok q) k is = record { present = λ e. no_true (sym (ap asks (ap Ok k)) ∙ e); is = λ ws. rw k (is ws) }
  settles (Ok x) (Err _) k is = elim k [ ]
  settles (Err e) p k is = record { present = λ e. no_true (sym (ap asks k) ∙ e); is = λ ws. rw k (is ws) }

  pub refuses : (p : Result Pending Refusal) (r : Refusal) → p ≡ Err r → ((ws : List ℕ) → Err (number r) ≡ verdict ws) → Pends h ts m p verdict
  refuses p r k is = record { present = λ e. no_true (sym (ap asks k) ∙ e); is = λ ws. rw k (is ws) }

-- ---- steps 1 and 2

module _ (h : Realm) (role : Role) (a b : ℕ) (x : Sends) where
  pub no_room : 64 ≤ h.runs → Err 13 ≡ opens_run h role a b x
  unfolding opens_run
  no_room p = rw (le-ltb h.runs 64 p)

  pub run_opened : h.runs < 64 → Ok (opening h.clock role Opened h.runs a b 0 0 x) ≡ opens_run h role a b x
  unfolding opens_run
  run_opened p = rw (lt-ltb h.runs 64 p)

-- ---- step 7

module _ (h : Realm) (t : ℕ) where
  pub clock_back : t < h.clock → Err 12 ≡ ticks h t
  unfolding ticks
  clock_back p = rw (lt-leb h.clock t p)

  pub clock_set : h.clock ≤ t → Ok (nothing t) ≡ ticks h t
  unfolding ticks
  clock_set p = rw (le-leb h.clock t p)

-- ---- the fields of a step that passes

-- they are in range
module _ (h : Realm) (s : Step) (passes : input_refusal h s ≡ 0) (k : ℕ) (is : s.step ≡ k) where
  range : Range h (uses_of k) s
  range = in_range_lem h (uses_of k) s (subst (λ (n : ℕ). in_range h (uses_of n) s ≡ true) is (passed h s passes).range)

pub named_run_below : {h : Realm} {s : Step} → Named h s → s.run < h.runs
unfolding uses_table
named_run_below {h} {s} n = by n.names
  where
    by : NamesRun s.step → s.run < h.runs
    by (inl e) = (range h s n.passes 4 e).run refl
    by (inr (inl e)) = (range h s n.passes 5 e).run refl
    by (inr (inr (inl e))) = (range h s n.passes 6 e).run refl
    by (inr (inr (inr e))) = (range h s n.passes 9 e).run refl

-- its message is present
pub message_below : (h : Realm) (s : Step) → input_refusal h s ≡ 0 → (k : ℕ) → s.step ≡ k → (uses_of k).m ≡ true → s.m < h.terms
message_below h s passes k e p = (range h s passes k e).m p

-- ---- the steps that name a run

module _ (t : Tables) (s : Step) (own : Row) (is : own ≡ run_at t.runs s.run) where
  module _ (unfit : meets (need_of s.step) own ≡ false) where
    unfit_at : (k : ℕ) → s.step ≡ k → meets (need_of k) own ≡ false
    unfit_at k e = subst (λ (n : ℕ). meets (need_of n) own ≡ false) e unfit

    pub run_barred : NamesRun s.step → Err 11 ≡ step_of t s
    unfolding step_of
    run_barred (inl e) = rw (e, ← is, unfit_at 4 e)
    run_barred (inr (inl e)) = rw (e, ← is, unfit_at 5 e)
    run_barred (inr (inr (inl e))) = rw (e, ← is, unfit_at 6 e)
    run_barred (inr (inr (inr e))) = rw (e, ← is, unfit_at 9 e)

  module _ (fit : meets (need_of s.step) own ≡ true) where
    fit_at : (k : ℕ) → s.step ≡ k → meets (need_of k) own ≡ true
    fit_at k e = subst (λ (n : ℕ). meets (need_of n) own ≡ true) e fit

    pub step_4 : s.step ≡ 4 → authenticates t.realm t.terms t.wire s.run own s.m ≡ step_of t s
    unfolding step_of
    step_4 e = rw (e, ← is, fit_at 4 e)

    pub step_5 : s.step ≡ 5 → takes t.realm t.terms t.wire t.cache s.run own s.m ≡ step_of t s
    unfolding step_of
    step_5 e = rw (e, ← is, fit_at 5 e)

    pub step_6 : s.step ≡ 6 → finishes t.realm t.terms t.wire s.run own s.m ≡ step_of t s
    unfolding step_of
    step_6 e = rw (e, ← is, fit_at 6 e)

    pub step_9 : s.step ≡ 9 → Ok (leaking t.realm.clock s.run) ≡ step_of t s
    unfolding step_of
    step_9 e = rw (e, ← is, fit_at 9 e)

-- the last of them
pub is_9 : (n : ℕ) → NamesRun n → (n ≡ 4 → ⊥) → (n ≡ 5 → ⊥) → (n ≡ 6 → ⊥) → n ≡ 9
is_9 n (inl e) f g h = absurd (f e)
is_9 n (inr (inl e)) f g h = absurd (g e)
is_9 n (inr (inr (inl e))) f g h = absurd (h e)
is_9 n (inr (inr (inr e))) f g h = e

-- ---- the others

module _ (t : Tables) (s : Step) where
  pub step_1 : s.step ≡ 1 → opens_run t.realm Initiator s.a s.b (Request s.a s.b t.realm.runs) ≡ step_of t s
  unfolding step_of
  step_1 e = rw e

  pub step_2 : s.step ≡ 2 → opens_run t.realm Responder s.a s.b Nothing ≡ step_of t s
  unfolding step_of
  step_2 e = rw e

  pub step_3 : s.step ≡ 3 → issues t.realm t.terms t.wire s.m ≡ step_of t s
  unfolding step_of
  step_3 e = rw e

  pub step_7 : s.step ≡ 7 → ticks t.realm s.t ≡ step_of t s
  unfolding step_of
  step_7 e = rw e

  pub step_8 : s.step ≡ 8 → Ok (forgetting t.realm.clock s.b) ≡ step_of t s
  unfolding step_of
  step_8 e = rw e

  pub step_10 : s.step ≡ 10 → need (derivable_at t.realm t.terms t.wire s.m) 15 (Ok (nothing t.realm.clock)) ≡ step_of t s
  unfolding step_of queries
  step_10 e = rw e

-- ---- the refusals of the fields

module _ (t : Tables) (s : Step) where
  pub fields_barred : (number : ℕ) → number ≡ input_refusal t.realm s → (number ≡ 0 → ⊥) → Err number ≡ decided t s
  unfolding decided
  fields_barred number e p = rw (← e, ne_eqb number 0 p)

  pub fields_pass : input_refusal t.realm s ≡ 0 → step_of t s ≡ decided t s
  unfolding decided
  fields_pass e = rw (eq-eqb (input_refusal t.realm s) 0 e)

-- a step of none of these numbers names a run
pub names_run : (n : ℕ) → 1 ≤ n → n ≤ 10 → (n ≡ 1 → ⊥) → (n ≡ 2 → ⊥) → (n ≡ 3 → ⊥) → (n ≡ 7 → ⊥) → (n ≡ 8 → ⊥) → (n ≡ 10 → ⊥)
    → NamesRun n
names_run n low high f₁ f₂ f₃ f₇ f₈ f₁₀ = by (dec_lt n 5) (dec_lt n 6) (dec_lt n 7)
  where
    by : Dec (n < 5) → Dec (n < 6) → Dec (n < 7) → NamesRun n
    by (yes p) _ _ = inl (omega arith)
    by (no p) (yes q) _ = inr (inl (omega arith))
    by (no p) (no q) (yes r) = inr (inr (inl (omega arith)))
    by (no p) (no q) (no r) = inr (inr (inr (omega arith)))
