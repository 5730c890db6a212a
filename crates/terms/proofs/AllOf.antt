-- What follows from the definitions of the same name in specs/.
-- Assumes nothing.
use Rattle.std.specs.Prelude.{◌≡◌, refl, Bool, true, false, ◌&&◌, ℕ, zero, suc, ◌<◌, get_or, length}
use Rattle.std.proofs.Math.Bool.{and-eq-true_iff}
use Rattle.std.proofs.Math.Logic.{dite}
use Rattle.std.proofs.Math.Decide.{ℕ_discrete}
use Rattle.std.proofs.Common.{arith, sym, ◌∙◌}
use Rattle.std.proofs.lemmas.List.FromFn.{length-range_with_len, get_or-range_with_len}
use Rattle.std.specs.Bool.{MatchBool}
use Rattle.std.specs.List.{range_with_len, AllWithin, HoldsAt}
use Rattle.terms.proofs.Choice.{is_false, no_true}
use Rattle.terms.specs.AllOf.{each}

pub record Five (a b c d e : Bool) : Type 0 where
  pub first : a ≡ true
  pub second : b ≡ true
  pub third : c ≡ true
  pub fourth : d ≡ true
  pub fifth : e ≡ true

pub five : (a b c d e : Bool) → (a && b && c && d && e) ≡ true → Five a b c d e
five a b c d e h =
    let p = (and-eq-true_iff (a && b && c && d) e).0 h in
    let q = (and-eq-true_iff (a && b && c) d).0 p.0 in
    let r = (and-eq-true_iff (a && b) c).0 q.0 in
    let s = (and-eq-true_iff a b).0 r.0 in
    record { first = s.0; second = s.1; third = r.1; fourth = q.1; fifth = p.1 }

pub all_five : {a b c d e : Bool} → Five a b c d e → (a && b && c && d && e) ≡ true
all_five f = rw (f.first, f.second, f.third, f.fourth, f.fifth)

pub each_true : (f : ℕ → Bool) (m : ℕ) → each f m ≡ true → (i : ℕ) → i < m → f i ≡ true
unfolding each
each_true f zero e i h = absurd (omega arith)
each_true f (suc m) e i h =
    let b = (and-eq-true_iff (each f m) (f m)).0 e in
    dite (ℕ_discrete i m) (λ q. rw q b.1) (λ ne. each_true f m b.0 i (omega arith))

pub true_each : (f : ℕ → Bool) (m : ℕ) → ((i : ℕ) → i < m → f i ≡ true) → each f m ≡ true
unfolding each
true_each f zero all = refl
true_each f (suc m) all = rw (true_each f m (λ i h. all i (omega arith))) (all m (omega arith))

-- ---- what `all` over the numbers below m finds

below_by : (P : ℕ → Type 0) (m : ℕ) → AllWithin P (range_with_len 0 m) 0 (length (range_with_len 0 m)) → (i : ℕ) → i < m → P i
below_by P m h i lt =
    let g : get_or (range_with_len 0 m) i 0 ≡ i = omega (arith, get_or-range_with_len 0 m i 0 lt) in
    let within : P (get_or (range_with_len 0 m) i 0) = h i 0 (omega arith) (rw (length-range_with_len 0 m) lt) in
    rw g at within

at_by : (P : ℕ → Type 0) (m : ℕ) → (k : ℕ) × (k < length (range_with_len 0 m)) × HoldsAt P (range_with_len 0 m) k → (i : ℕ) × (i < m) × P i
at_by P m h =
    let lt : h.0 < m = rw (length-range_with_len 0 m) at h.1 in
    let g : get_or (range_with_len 0 m) h.0 0 ≡ h.0 = omega (arith, get_or-range_with_len 0 m h.0 0 lt) in
    let there : P (get_or (range_with_len 0 m) h.0 0) = h.2 0 in
    (h.0, lt, rw g at there)

pub all_is_each : (f : ℕ → Bool) (m : ℕ) (r : Bool)
    → MatchBool r (AllWithin (λ k. f k ≡ true) (range_with_len 0 m) 0 (length (range_with_len 0 m)))
    ((k : ℕ) × (k < length (range_with_len 0 m)) × HoldsAt (λ k. f k ≡ false) (range_with_len 0 m) k)
    → r ≡ each f m
all_is_each f m true h = sym (true_each f m (below_by (λ k. f k ≡ true) m h))
all_is_each f m false h =
    let p = at_by (λ k. f k ≡ false) m h in
    is_false (each f m) (λ e. no_true (sym p.2 ∙ each_true f m e p.0 p.1))
