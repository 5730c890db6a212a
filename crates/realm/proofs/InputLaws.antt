-- What follows from the definitions of the same name in specs/.
-- Assumes nothing.
use Rattle.std.specs.Prelude.{ℕ, ◌<◌, ◌≤◌, ◌≡◌, refl, Bool, true, false, ◌&&◌, cond, leb}
use Rattle.std.proofs.Common.{sym, arith}
use borrow.Author.Tests.{le-leb, lt-leb, leb-true}
use Rattle.std.proofs.Math.Bool.{and-eq-true_iff}
use Rattle.realm.specs.declared.header.Realm.{Realm}
use Rattle.realm.specs.declared.input.Step.{Step}
use Rattle.realm.specs.Input.{uses_of, unused_zero, in_range, input_refusal, InputPassed}

-- ---- by the way out

module _ (h : Realm) (s : Step) where
  pub no_step_below : s.step < 1 → ◌≡◌ {A = ℕ} 4 (input_refusal h s)
  unfolding input_refusal
  no_step_below l = rw (lt-leb 1 s.step l)

  pub no_step_above : 10 < s.step → ◌≡◌ {A = ℕ} 4 (input_refusal h s)
  unfolding input_refusal
  no_step_above l = rw (le-leb 1 s.step (omega arith), lt-leb s.step 10 l)

  module _ (low : 1 ≤ s.step) (high : s.step ≤ 10) where
    step : (leb 1 s.step && leb s.step 10) ≡ true
    step = rw (le-leb 1 s.step low, le-leb s.step 10 high)

    pub not_zero : unused_zero (uses_of s.step) s ≡ false → ◌≡◌ {A = ℕ} 5 (input_refusal h s)
    unfolding input_refusal
    not_zero e = rw (step, e)

    module _ (zero : unused_zero (uses_of s.step) s ≡ true) where
      pub not_in_range : in_range h (uses_of s.step) s ≡ false → ◌≡◌ {A = ℕ} 6 (input_refusal h s)
      unfolding input_refusal
      not_in_range e = rw (step, zero, e)

      pub passes : in_range h (uses_of s.step) s ≡ true → ◌≡◌ {A = ℕ} 0 (input_refusal h s)
      unfolding input_refusal
      passes e = rw (step, zero, e)

all_three : (a b c : Bool) → ◌≡◌ {A = ℕ} (cond a (cond b (cond c 0 6) 5) 4) 0 → (a ≡ true) × (b ≡ true) × (c ≡ true)
all_three true true true e = (refl, refl, refl)
all_three true true false e = absurd (omega arith)
all_three true false c e = absurd (omega arith)
all_three false b c e = absurd (omega arith)

pub passed : (h : Realm) (s : Step) → input_refusal h s ≡ 0 → InputPassed h s
unfolding input_refusal
passed h s e =
    let t = all_three (leb 1 s.step && leb s.step 10) (unused_zero (uses_of s.step) s) (in_range h (uses_of s.step) s) e in
    let u = (and-eq-true_iff (leb 1 s.step) (leb s.step 10)).0 t.0 in
    record { low = leb-true 1 s.step u.0; high = leb-true s.step 10 u.1; unused = t.1; range = t.2 }

pub passed_back : (h : Realm) (s : Step) → InputPassed h s → input_refusal h s ≡ 0
passed_back h s p = sym (passes h s p.low p.high p.unused p.range)
