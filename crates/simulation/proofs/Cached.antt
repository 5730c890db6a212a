-- The replay cache of the tables and that of the log: the same entries, so the same are present, the same are forgotten, and one
-- more is one more.
-- Assumes nothing.
use Rattle.std.specs.Prelude.{ℕ, ◌+◌, ◌≡◌, refl, Bool, true, false, not, ◌&&◌, cond, eqb, leb}
use Rattle.std.proofs.Common.{sym, ap, ◌∙◌}
use mathlib.Core.List.{List, [], ◌∷◌, map, Memᴰ}
use Rattle.terms.proofs.Choice.{no_true}
use Rattle.replay.specs.Cache.{present, stays, filter, kept}
use Rattle.replay.proofs.Promises.{present_exactly}
use Rattle.replay.specs.declared.entry.Entry as replay
use Rattle.replay.specs.declared.entry.Purge.{Purge}
use Rattle.traces.specs.Lists.{◌∈◌, here, there}
use Rattle.traces.specs.RuleSets.{Entry, entry}
use Rattle.kerberos.specs.Log.{forget}
use Rattle.simulation.specs.Values.{logged}

-- ---- which are present

-- the parts of an entry of the log
abbrev b_of : Entry → ℕ
b_of (entry b k ta) = b

abbrev k_of : Entry → ℕ
k_of (entry b k ta) = k

abbrev ta_of : Entry → ℕ
ta_of (entry b k ta) = ta

logged_once : (x y : replay.Entry) → logged x ≡ logged y → x ≡ y
logged_once x y e = λ j. record { b = ap b_of e j; k = ap k_of e j; ta = ap ta_of e j }

-- what is logged of a list is logged of one of its members
record Logged (xs : List replay.Entry) (z : Entry) : Type 0 where
  place : replay.Entry
  member : Memᴰ place xs
  is : z ≡ logged place

logged_of : (xs : List replay.Entry) {z : Entry} → z ∈ map logged xs → Logged xs z
logged_of [] x' = elim x' [ ]
logged_of (x ∷ xs) here = record { place = x; member = Memᴰ.head refl; is = refl }
logged_of (x ∷ xs) (there i) =
    let r = logged_of xs i in
    record { place = r.place; member = Memᴰ.tail r.member; is = r.is }

pub absent_logged : (xs : List replay.Entry) (x : replay.Entry) → present xs x ≡ false → ¬ (logged x ∈ map logged xs)
absent_logged xs x e i =
    let r = logged_of xs i in
    let same : x ≡ r.place = logged_once x r.place r.is in
    no_true (sym e ∙ (present_exactly xs x).1 (rw same r.member))

-- ---- which are forgotten

chosen : (x : replay.Entry) (goes : Bool) (xs : List replay.Entry)
    → map logged (cond (not goes) (x ∷ xs) xs) ≡ cond goes (map logged xs) (logged x ∷ map logged xs)
chosen x true xs = refl
chosen x false xs = refl

pub logged_kept : (p : Purge) (xs : List replay.Entry) → map logged (kept p xs) ≡ forget p.b p.clock p.la (map logged xs)
unfolding kept stays
logged_kept p [] = refl
logged_kept p (x ∷ xs) =
    chosen x (eqb x.b p.b && leb (x.ta + p.la) p.clock) (filter (stays p) xs)
    ∙ ap (λ (l : List Entry). cond (eqb x.b p.b && leb (x.ta + p.la) p.clock) l (logged x ∷ l)) (logged_kept p xs)
