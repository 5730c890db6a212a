-- What follows from the definitions of the same name in specs/.
-- Assumes nothing.
use Rattle.std.specs.Prelude.{◌≡◌, refl, Bool, true, false, cond, ℕ, ◌≤◌, eqb, length, Err}
use Rattle.std.proofs.Common.{sym, ap, ◌∙◌, inl, inr, arith}
use Rattle.terms.proofs.AllOf.{five}
use Rattle.terms.proofs.Choice.{cond_elim}
use Rattle.terms.specs.Valid.{holds}
use Rattle.terms.proofs.Valid.{holds_valid}
use Rattle.exchange.specs.declared.call.Call.{Call}
use Rattle.exchange.specs.Calls.{Answer, Sized}
use Rattle.runs.specs.Lent.{rows_hold}
use Rattle.runs.proofs.Promises.{rows_decided}
use Rattle.realm.specs.Check.{together, wire_holds, entries_hold}
use Rattle.realm.specs.Opening.{realm_fits}
use Rattle.realm.specs.Tables.{Tables}
use Rattle.effects.specs.Apply.{Outcome, refuse}
use Rattle.effects.specs.Call.{called, checked}
use Rattle.raw_records.specs.Apart.{fields_refusal, walk_has}
use Rattle.raw_records.specs.Calls.{raw_for}
use Rattle.raw_records.proofs.Promises.{fields_apart}
use Rattle.raw_records.specs.Refusals.{first, own_refusal}
use Rattle.raw_records.proofs.Refusals.{first_some}
use Rattle.calls.specs.Lent.{lent_call}
use Rattle.written_answers.proofs.Numbers.{ByFields, call_number, fields_told}
use Rattle.written_answers.specs.Answers.{LeftApart}

-- ---- laws

module _ (t : Tables) (few_runs : t.realm.runs ≤ 256) (few_terms : t.realm.terms ≤ 65536) (c : Call) (sized : Sized c) where
  abbrev own : ℕ
  own = own_refusal t.realm.n (raw_for c)

  abbrev of_fields : ℕ
  of_fields = fields_refusal t.realm t.terms c

  split : of_fields ≡ first own (cond (walk_has t.realm t.terms c) 0 6)
  split = fields_apart t.realm t.terms few_runs few_terms c sized

  -- where its own fields pass, the fields say what the tables lack
  passing : own ≡ 0 → of_fields ≡ cond (walk_has t.realm t.terms c) 0 6
  passing z = split ∙ ap (λ (k : ℕ). first k (cond (walk_has t.realm t.terms c) 0 6)) z

  apart_by : own ≡ 0 → {k : ℕ} → ByFields of_fields k → LeftApart t c k
  apart_by z (inr late) = inr (omega arith)
  apart_by z {k} (inl (is, some)) = by (walk_has t.realm t.terms c) refl
    where
      by : (b : Bool) → walk_has t.realm t.terms c ≡ b → LeftApart t c k
      by true e = absurd (some (passing z ∙ ap (λ (b : Bool). cond b 0 6) e))
      by false e = inl (is ∙ passing z ∙ ap (λ (b : Bool). cond b 0 6) e, e)

  pub called_past : own ≡ 0 → {k : ℕ} → (called t c).answer ≡ Err k → LeftApart t c k
  called_past z e = apart_by z (call_number t c e)

  pub called_absent : own ≡ 0 → walk_has t.realm t.terms c ≡ false → called t c ≡ refuse t 6
  called_absent z e =
      let is : of_fields ≡ 6 = passing z ∙ ap (λ (b : Bool). cond b 0 6) e in
      fields_told t c (λ n. omega arith) ∙ ap (refuse t) is

  pub called_barred : (own ≡ 0 → ⊥) → called t c ≡ refuse t own
  called_barred n = fields_told t c (λ z. n (sym is ∙ z)) ∙ ap (refuse t) is
    where
      is : of_fields ≡ own
      is = split ∙ sym (first_some own _ n)

-- ---- the tables

-- tables that passed the check have few enough runs and terms
few : (t : Tables) → together t ≡ true → (t.realm.runs ≤ 256) × (t.realm.terms ≤ 65536)
unfolding together
few t e =
    let h = t.realm in
    let f =
    five (realm_fits h) (holds h.n t.terms h.terms) (rows_hold h.n t.runs h.runs t.terms h.terms)
    (wire_holds t.wire h.terms) (entries_hold h.n t.cache h.entries) e in
    let terms = holds_valid h.n t.terms h.terms f.second in
    let runs = (rows_decided h.n t.runs h.runs t.terms h.terms).0 f.third in
    (omega (arith, runs.room), omega (arith, terms.room))

pub lent_past : (t : Tables) (c : Call) → Sized c → own_refusal t.realm.n (raw_for c) ≡ 0 → {k : ℕ} → (lent_call t c).answer ≡ Err k → LeftApart t c k
unfolding lent_call checked
lent_past t c sized z {k} =
    cond_elim Past (eqb (length t.cache) 16) (checked t c) (refuse t 10)
    (λ _. cond_elim Past (together t) (called t c) (refuse t 10) (λ h. called_past t (few t h).0 (few t h).1 c sized z) (λ _. ten)) (λ _. ten)
  where
    Past : Outcome → Type 0
    Past o = o.answer ≡ Err k → LeftApart t c k

    ten : ◌≡◌ {A = Answer} (Err 10) (Err k) → LeftApart t c k
    ten e = let is : 10 ≡ k = cc in inr (omega arith)
