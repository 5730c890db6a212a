-- What follows from the definitions of the same name in specs/.
-- Assumes nothing.
use Rattle.std.specs.Prelude.{◌≡◌, refl, Bool, true, false, ◌&&◌, ◌||◌, cond, ℕ, ◌+◌, ◌^◌, ◌<◌, ◌≤◌, ltb, eqb, drop, Option, Some, None}
use Rattle.std.proofs.Math.Bool.{and-eq-true_iff}
use mathlib.Core.List.{List, [], ◌∷◌}
use Rattle.std.proofs.Common.{arith, ltb-true, ltb-false, eqb-true, get_or-drop}
use Rattle.terms.proofs.AllOf.{five}
use Rattle.terms.proofs.Choice.{cond_elim}
use Rattle.realm.specs.declared.input.Uses.{Uses}
use Rattle.realm.proofs.Fields.{in_range_lem}
use Rattle.realm.specs.Input.{uses_of}
use Rattle.realm.proofs.InputLaws.{passed}
use Rattle.records.specs.Records.{term_mark, step_mark}
use Rattle.raw_records.specs.declared.raw.RawRecord.{RawRecord}
use Rattle.raw_records.specs.declared.raw.RawRecord.TheVariants.{Term, Step}
use Rattle.raw_records.specs.Raw.{raw_by, records_of}
use Rattle.raw_records.specs.Refusals.{uses_right, limit_of, term_refusal, roomy, step_fields, step_refusal, own_refusal, records_refusal}
use Rattle.raw_records.proofs.Refusals.{first_zero}
use Rattle.raw_records.specs.Calls.{RawSized, AllRawSized}
use Rattle.raw_records.specs.Fit.{Words32}

drop_words : {words : List ℕ} → Words32 words → (at : ℕ) → Words32 (drop at words)
drop_words {words} w at = record { small = λ k. rw (get_or-drop at words k 0) (w.small (at + k)) }

-- ---- a term

limit_small : (n kind : ℕ) → n < 2 ^ 8 → limit_of n kind ≤ 65536
limit_small n kind h =
    cond_elim (λ (k : ℕ). k ≤ 65536) (eqb kind 0 || eqb kind 3) n (cond (eqb kind 2 || eqb kind 4) 96 65536) (λ _. omega arith)
    (λ _. cond_elim (λ (k : ℕ). k ≤ 65536) (eqb kind 2 || eqb kind 4) 96 65536 (λ _. omega arith) (λ _. omega arith))

three : (a b c : Bool) → ◌≡◌ {A = ℕ} (cond a 4 (cond b (cond c 0 6) 5)) 0 → (a ≡ false) × (c ≡ true)
three true b c e = absurd (omega arith)
three false false c e = absurd (omega arith)
three false true false e = absurd (omega arith)
three false true true e = (refl, refl)

term_fits : (n kind l r : ℕ) → n < 2 ^ 8 → term_refusal n kind l r ≡ 0 → RawSized (Some (Term kind l r))
unfolding term_refusal
term_fits n kind l r h e =
    let t = three (ltb 6 kind) (uses_right kind || eqb r 0) (ltb l (limit_of n kind) && ltb r 65536) e in
    let u = (and-eq-true_iff (ltb l (limit_of n kind)) (ltb r 65536)).0 t.1 in
    let low = ltb-true l (limit_of n kind) u.0 in
    let few = ltb-false 6 kind t.0 in
    (omega arith, omega (arith, low, limit_small n kind h), ltb-true r 65536 u.1)

-- ---- a step

-- a field that is 0 where it is not used, and small where it is
field_below : (used : Bool) (x limit : ℕ) → 0 < limit → (used || eqb x 0) ≡ true → (used ≡ true → x < limit) → x < limit
field_below true x limit p e f = f refl
field_below false x limit p e f = let z = eqb-true x 0 e in omega arith

step_fits : (n step run a b m t : ℕ) → n < 2 ^ 8 → t < 2 ^ 32 → step_refusal n step run a b m t ≡ 0 → RawSized (Some (Step step run a b m t))
step_fits n step run a b m t small last e =
    let u : Uses = uses_of step in
    let p = passed (roomy n) (step_fields step run a b m t) e in
    let z = five (u.run || eqb run 0) (u.a || eqb a 0) (u.b || eqb b 0) (u.m || eqb m 0) (u.t || eqb t 0) p.unused in
    let r = in_range_lem (roomy n) u (step_fields step run a b m t) p.range in (
      omega (arith, p.high),
      field_below u.run run 256 (omega arith) z.first r.run,
      field_below u.a a 256 (omega arith) z.second (λ i. omega (arith, (r.principals i).a_below)),
      field_below u.b b 256 (omega arith) z.third (λ i. omega (arith, r.b i)),
      field_below u.m m 65536 (omega arith) z.fourth r.m,
      last,
    )

-- ---- all records

module _ (n : ℕ) (small : n < 2 ^ 8) where
  record_fits : (mark u v w x y z : ℕ) → z < 2 ^ 32 → own_refusal n (raw_by mark u v w x y z) ≡ 0 → RawSized (raw_by mark u v w x y z)
  unfolding raw_by own_refusal
  record_fits mark u v w x y z h =
      cond_elim (λ (raw : Option RawRecord). own_refusal n raw ≡ 0 → RawSized raw) (eqb mark term_mark) (Some (Term u v w)) (cond (eqb mark step_mark) (Some (Step u v w x y z)) None)
      (λ _ e. term_fits n u v w small e)
      (λ _. cond_elim (λ (raw : Option RawRecord). own_refusal n raw ≡ 0 → RawSized raw) (eqb mark step_mark) (Some (Step u v w x y z)) None
      (λ _ e. step_fits n u v w x y z small h e) (λ _ e. absurd (omega arith)))

  cut : {A : Type 0} → records_refusal n (None ∷ []) ≡ 0 → A
  unfolding own_refusal
  cut e = absurd (omega arith)

  pub records_fit : (words : List ℕ) → Words32 words → records_refusal n (records_of words) ≡ 0 → AllRawSized (records_of words)
  unfolding records_of
  records_fit [] w e = tt
  records_fit (_ ∷ []) w e = cut e
  records_fit (_ ∷ _ ∷ []) w e = cut e
  records_fit (_ ∷ _ ∷ _ ∷ []) w e = cut e
  records_fit (_ ∷ _ ∷ _ ∷ _ ∷ []) w e = cut e
  records_fit (_ ∷ _ ∷ _ ∷ _ ∷ _ ∷ []) w e = cut e
  records_fit (_ ∷ _ ∷ _ ∷ _ ∷ _ ∷ _ ∷ []) w e = cut e
  records_fit (mark ∷ u ∷ v ∷ x ∷ y ∷ z ∷ t ∷ rest) w e =
      let p = first_zero (own_refusal n (raw_by mark u v x y z t)) (records_refusal n (records_of rest)) e in
      (record_fits mark u v x y z t (w.small 6) p.0, records_fit rest (drop_words w 7) p.1)
