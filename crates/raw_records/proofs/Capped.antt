-- What follows from the definitions of the same name in specs/.
-- Assumes nothing.
use Rattle.std.specs.Prelude.{ℕ, ◌<◌, ◌≤◌, ◌≡◌, Bool, not, ◌&&◌, ◌||◌, cond}
use Rattle.std.proofs.Math.Path.{refl}
use Rattle.std.proofs.Common.{sym, ◌∙◌, arith}
use Rattle.std.proofs.Math.Bool.{true, false}
use borrow.Author.Tests.{lt-ltb, le-ltb, ltb-true, ltb-false, ne_eqb, eqb-true}
use Rattle.std.proofs.Math.Dec.{ltb, leb, eqb}
use Rattle.terms.proofs.AllOf.{five}
use Rattle.terms.proofs.Choice.{and_same, no_true}
use Rattle.runs.specs.Lent.{principals_fit}
use Rattle.realm.specs.declared.input.Step.{Step}
use Rattle.realm.specs.declared.input.Uses.{Uses}
use Rattle.realm.specs.Input.{uses_of, unused_zero, in_range, input_refusal}
use Rattle.realm.proofs.InputLaws.{no_step_above}
use Rattle.raw_records.specs.Refusals.{first, roomy, step_fields, step_refusal}
use Rattle.raw_records.proofs.Refusals.{first_none}
use Rattle.raw_records.specs.Capped.{capped, wide_refusal}

-- the fields that the code looks at
abbrev pub capped_fields : (step run a b m t : ℕ) → Step
capped_fields step run a b m t = step_fields (capped 255 step) (capped 255 run) (capped 255 a) (capped 255 b) (capped 65535 m) t

-- ---- tests of a number and of what it is capped to

module _ (most x : ℕ) where
  capped_small : x ≤ most → x ≡ capped most x
  capped_small h = rw (le-ltb most x h)

  zero_same : 0 < most → eqb (capped most x) 0 ≡ eqb x 0
  zero_same p = on (ltb most x) refl
    where
      on : (t : Bool) → ltb most x ≡ t → eqb (cond t most x) 0 ≡ eqb x 0
      on true e = let h = ltb-true most x e in ne_eqb most 0 (λ z. omega arith) ∙ sym (ne_eqb x 0 (λ z. omega arith))
      on false e = refl

  below_same : (n : ℕ) → n ≤ most → ltb (capped most x) n ≡ ltb x n
  below_same n p = on (ltb most x) refl
    where
      on : (t : Bool) → ltb most x ≡ t → ltb (cond t most x) n ≡ ltb x n
      on true e = let h = ltb-true most x e in le-ltb most n p ∙ sym (le-ltb x n (omega arith))
      on false e = refl

  below_next : (n : ℕ) → most < n → ltb (capped most x) n ≡ true
  below_next n p = on (ltb most x) refl
    where
      on : (t : Bool) → ltb most x ≡ t → ltb (cond t most x) n ≡ true
      on true e = lt-ltb most n p
      on false e = let h = ltb-false most x e in lt-ltb x n (omega arith)

principals_same : (n a b : ℕ) → n ≤ 255 → principals_fit n (capped 255 a) (capped 255 b) ≡ principals_fit n a b
principals_same n a b h =
    rw (below_same 255 a n h, below_same 255 b n h, zero_same 255 a (omega arith), zero_same 255 b (omega arith))
    (and_same (ltb a n && ltb b n && not (eqb a 0) && not (eqb b 0)) (not (eqb (capped 255 a) (capped 255 b))) (not (eqb a b))
    (λ e.
    let f = five true (ltb a n) (ltb b n) (not (eqb a 0)) (not (eqb b 0)) e in
    let a_fits = ltb-true a n f.second in
    let b_fits = ltb-true b n f.third in
    rw (← capped_small 255 a (omega arith), ← capped_small 255 b (omega arith))))

-- ---- a step

-- refusals 4 and 5 are as they were, and behind them only 6 is left to look at
chosen : (a u r r' : Bool) (w : ℕ) → (u ≡ true → first (cond r' 0 6) w ≡ cond r 0 6)
    → first (cond a (cond u (cond r' 0 6) 5) 4) w ≡ cond a (cond u (cond r 0 6) 5) 4
chosen true true r r' w f = f refl
chosen true false r r' w f = refl
chosen false u r r' w f = refl

six : (r : Bool) → first (cond r 0 6) 6 ≡ 6
six true = refl
six false = refl

no_and : (v : Bool) → ◌≡◌ {A = ℕ} 6 (cond (v && false) 0 6)
no_and true = refl
no_and false = refl

-- a field that is not used is 0 and so not wide
apart : (p q x y f g : Bool) → (p ≡ false → x ≡ true) → (q ≡ false → y ≡ true)
    → first (cond ((not p || true) && f && g && (not q || true)) 0 6) (cond (x && y) 0 6) ≡ cond ((not p || x) && f && g && (not q || y)) 0 6
apart p q true true f g i j = first_none (cond ((not p || true) && f && g && (not q || true)) 0 6)
apart true q false y f g i j = six (f && g && (not q || true))
apart false q false y f g i j = no_true (i refl)
apart p true true false f g i j = six ((not p || true) && f && g && true) ∙ no_and ((not p || true) && f && g)
apart p false true false f g i j = no_true (j refl)

-- a field that is 0 where it is not used
unused_small : (used : Bool) (x most : ℕ) → (used || eqb x 0) ≡ true → 0 < most → used ≡ false → ltb x most ≡ true
unused_small true x most e p u = no_true (sym u)
unused_small false x most e p u = let z = eqb-true x 0 e in lt-ltb x most (omega arith)

module _ (n step run a b m t : ℕ) (small : n ≤ 255) where
  range_same : (u : Uses) → unused_zero u (step_fields step run a b m t) ≡ true
      → first (cond (in_range (roomy n) u (step_fields step (capped 255 run) (capped 255 a) (capped 255 b) (capped 65535 m) t)) 0 6) (wide_refusal run m)
      ≡ cond (in_range (roomy n) u (step_fields step run a b m t)) 0 6
  unfolding in_range
  range_same u e =
      let f = five (u.run || eqb run 0) (u.a || eqb a 0) (u.b || eqb b 0) (u.m || eqb m 0) (u.t || eqb t 0) e in
      rw (below_next 255 run 256 (omega arith), principals_same n a b small, below_same 255 b n small, below_next 65535 m 65536 (omega arith))
      (apart u.run u.m (ltb run 256) (ltb m 65536) (not u.a || principals_fit n a b) (not u.b || ltb b n)
      (unused_small u.run run 256 f.first (omega arith)) (unused_small u.m m 65536 f.fourth (omega arith)))

  unused_same : (u : Uses) → unused_zero u (step_fields step (capped 255 run) (capped 255 a) (capped 255 b) (capped 65535 m) t) ≡ unused_zero u (step_fields step run a b m t)
  unused_same u =
      rw (
        zero_same 255 run (omega arith),
        zero_same 255 a (omega arith),
        zero_same 255 b (omega arith),
        zero_same 65535 m (omega arith),
      )

  pub step_same : first (input_refusal (roomy n) (capped_fields step run a b m t)) (wide_refusal run m) ≡ step_refusal n step run a b m t
  unfolding input_refusal
  step_same = on (ltb 255 step) refl
    where
      on : (w : Bool) → ltb 255 step ≡ w
          → first (input_refusal (roomy n) (step_fields (cond w 255 step) (capped 255 run) (capped 255 a) (capped 255 b) (capped 65535 m) t)) (wide_refusal run m)
          ≡ step_refusal n step run a b m t
      on true e = let h = ltb-true 255 step e in no_step_above (roomy n) (step_fields step run a b m t) (omega arith)
      on false e =
          rw (unused_same (uses_of step))
          (chosen (leb 1 step && leb step 10) (unused_zero (uses_of step) (step_fields step run a b m t))
          (in_range (roomy n) (uses_of step) (step_fields step run a b m t))
          (in_range (roomy n) (uses_of step) (step_fields step (capped 255 run) (capped 255 a) (capped 255 b) (capped 65535 m) t))
          (wide_refusal run m) (range_same (uses_of step)))

  -- the code's answer, from those of the functions that it calls
  pub step_told_lem : {s r x y z p w told : ℕ} → s ≡ capped 255 step → r ≡ capped 255 run → x ≡ capped 255 a → y ≡ capped 255 b → z ≡ capped 65535 m
      → p ≡ input_refusal (roomy n) (step_fields s r x y z t) → w ≡ wide_refusal run m → told ≡ first p w → told ≡ step_refusal n step run a b m t
  step_told_lem es er ex ey ez ep ew e = rw (e, ep, ew, es, er, ex, ey, ez) step_same
