-- A small realm to try rules in, "n 3, flags 0, Ls 100, La 10" of case F and the same with other flags, and small facts that
-- examples need. Rules take a form and do not look at the number of the rule set.
-- Assumes nothing.
use Rattle.std.specs.Prelude.{ℕ, ◌%◌, ◌^◌, ◌≤◌, leb, ◌≡◌, true, []}
use Rattle.std.proofs.Math.Nat.{zero-div, div-eq_of_lt}
use Rattle.std.proofs.Common.{arith, leb-true}
use Rattle.std.proofs.Math.Pow.{pow-lt}
use Rattle.marks.specs.Bits.{bit}
use Rattle.traces.specs.Conditions.{Apart}
use Rattle.traces.specs.Lists.{◌∈◌}
use Rattle.traces.specs.Realm.{Realm, Good, HeaderPasses}

abbrev pub realm_of : (flags : ℕ) → Realm
realm_of flags = record { rules = 0; n = 3; flags = flags; ticket_life = 100; auth_life = 10 }

abbrev pub realm : Realm
realm = realm_of 0

pub header_of : (flags : ℕ) → flags ≤ 4 → flags % 2 ≡ 0 → HeaderPasses (realm_of flags)
unfolding bit
header_of flags h e = record {
  least = omega arith;
  most = omega arith;
  server_good = omega arith;
  none_above = λ p i. omega (arith, div-eq_of_lt {n = flags} {m = 2 ^ p} (omega (arith, pow-lt {i = 2} {j = p} (omega arith))));
  ticket_life_some = omega arith;
  ticket_life_fits = omega arith;
  auth_life_some = omega arith;
  auth_life_fits = omega arith;
}

pub good : (p : ℕ) → Good realm p
unfolding bit
good p b = omega (arith, zero-div (2 ^ p), b.flagged)

pub apart : Apart 1 2
apart = record { a_not_server = λ e. omega arith; b_not_server = λ e. omega arith; unequal = λ e. omega arith }

-- a bound that computes
pub le : {m n : ℕ} → leb m n ≡ true → m ≤ n
le {m} {n} h = leb-true m n h

pub nowhere : {A : Type 0} {x : A} → ¬ (x ∈ [])
nowhere i = elim i [ ]
