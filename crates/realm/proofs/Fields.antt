-- What follows from the definitions of the same name in specs/.
-- Assumes nothing.
use Rattle.std.specs.Prelude.{ℕ, ◌<◌, ◌≡◌, refl, Bool, true, false, not, ◌||◌, cond, ltb, eqb}
use Rattle.std.proofs.Common.{ltb-true, eqb-true}
use Rattle.terms.proofs.Choice.{no_true}
use Rattle.terms.proofs.AllOf.{five}
use Rattle.runs.specs.Lent.{PrincipalsFit, principals_fit}
use Rattle.runs.proofs.Promises.{principals_decided}
use Rattle.exchange.specs.declared.call.Call.{Call}
use Rattle.exchange.specs.declared.call.Call.TheVariants as calls
use Rattle.realm.specs.declared.header.Realm.{Realm}
use Rattle.realm.specs.declared.input.Step.{Step}
use Rattle.realm.specs.declared.input.Uses.{Uses}
use Rattle.realm.specs.Input.{unused_zero, in_range}
use Rattle.realm.specs.Fields.{call_of}

-- ---- fields that are not used

-- the call with 0 for each field that is not used
abbrev pub cleared : Uses → Step → Call
cleared u s =
    calls.Step s.step (cond u.run s.run 0) (cond u.a s.a 0) (cond u.b s.b 0) (cond u.m s.m 0) (cond u.t s.t 0)

kept_or_zero : (used : Bool) (x : ℕ) → (used || eqb x 0) ≡ true → x ≡ cond used x 0
kept_or_zero true x e = refl
kept_or_zero false x e = eqb-true x 0 e

same_call : (step : ℕ) {r r' a a' b b' m m' t t' : ℕ} → r ≡ r' → a ≡ a' → b ≡ b' → m ≡ m' → t ≡ t'
    → calls.Step step r a b m t ≡ calls.Step step r' a' b' m' t'
same_call step p q i j k = cc

pub call_cleared : (u : Uses) (s : Step) → unused_zero u s ≡ true → call_of s ≡ cleared u s
call_cleared u s e =
    let z = five (u.run || eqb s.run 0) (u.a || eqb s.a 0) (u.b || eqb s.b 0) (u.m || eqb s.m 0) (u.t || eqb s.t 0) e in
    same_call s.step (kept_or_zero u.run s.run z.first) (kept_or_zero u.a s.a z.second) (kept_or_zero u.b s.b z.third)
    (kept_or_zero u.m s.m z.fourth) (kept_or_zero u.t s.t z.fifth)

-- ---- fields that are used

pub record Range (h : Realm) (u : Uses) (s : Step) : Type 0 where
  pub run : u.run ≡ true → s.run < h.runs
  pub principals : u.a ≡ true → PrincipalsFit h.n s.a s.b
  pub b : u.b ≡ true → s.b < h.n
  pub m : u.m ≡ true → s.m < h.terms

tested : (used test : Bool) → (not used || test) ≡ true → used ≡ true → test ≡ true
tested true test e i = e
tested false test e i = no_true i

pub in_range_lem : (h : Realm) (u : Uses) (s : Step) → in_range h u s ≡ true → Range h u s
unfolding in_range
in_range_lem h u s e =
    let z =
    five true (not u.run || ltb s.run h.runs) (not u.a || principals_fit h.n s.a s.b) (not u.b || ltb s.b h.n)
    (not u.m || ltb s.m h.terms) e in
    record {
      run = λ i. ltb-true s.run h.runs (tested u.run _ z.second i);
      principals = λ i. (principals_decided h.n s.a s.b).0 (tested u.a _ z.third i);
      b = λ i. ltb-true s.b h.n (tested u.b _ z.fourth i);
      m = λ i. ltb-true s.m h.terms (tested u.m _ z.fifth i);
    }
