-- The ways out of a call, over plain variables: the code's proofs cite them.
-- Assumes nothing.
use Rattle.std.specs.Prelude.{ℕ, suc, ◌+◌, ◌<◌, ◌≡◌, refl, true, false, List, Result, Ok, Err}
use Rattle.std.proofs.Common.{add-one, arith, ap, subst}
use Rattle.std.proofs.Math.Path.{sym}
use Rattle.refusals.specs.declared.Refusal.{Refusal}
use Rattle.words.specs.Word.{packed}
use Rattle.terms.specs.Add.{add_of, AddsTerm}
use Rattle.terms.proofs.Add.{adds}
use Rattle.terms.specs.Valid.{Valid}
use Rattle.terms.specs.Outcome as terms
use Rattle.exchange.specs.declared.call.Accepted.TheVariants.{Old, New}
use Rattle.exchange.specs.declared.call.Call.{Call}
use Rattle.exchange.specs.declared.call.Call.TheVariants as calls
use Rattle.realm.specs.declared.header.Realm.{Realm}
use Rattle.realm.specs.declared.input.Step.{Step}
use Rattle.realm.specs.Check.{together}
use Rattle.realm.specs.Tables.{Tables}
use Rattle.decisions.specs.declared.Effect.{Effect}
use Rattle.decisions.specs.Decision.{decision}
use Rattle.deciding.specs.declared.decide.Decision.{Decision}
use Rattle.deciding.specs.Decided.{Writable, WritableBy}
use Rattle.effects.specs.Apply.{refuse, applied}
use Rattle.effects.proofs.Kept.{same_old, more_new}
use Rattle.effects.specs.Call.{with_count, Adding, adding, with_adding, by_verdict, stepped, called, checked}

-- ---- ST

module _ (t : Tables) (s : Step) where
  pub step_refused : {k : ℕ} → decision t s ≡ Err k → refuse t k ≡ stepped t s
  unfolding stepped
  step_refused e = sym (ap (by_verdict t) e)

  pub step_taken : {x : Effect} → decision t s ≡ Ok x → applied t x ≡ stepped t s
  unfolding stepped
  step_taken e = sym (ap (by_verdict t) e)

-- what a decision says of its plan
pub writable : (t : Tables) {v : Result Decision Refusal} {d : Decision} {words : List ℕ} → v ≡ Ok d → WritableBy t v words → Writable t d.effect words d.prepared
writable t {words = words} e w = subst (λ (v : Result Decision Refusal). WritableBy t v words) e w

module _ (t : Tables) (c : Call) where
  pub check_refused : together t ≡ false → refuse t 10 ≡ checked t c
  unfolding checked
  check_refused e = rw e

  pub check_passed : together t ≡ true → called t c ≡ checked t c
  unfolding checked
  check_passed e = rw e

-- ---- TM

module _ {n : ℕ} {ts : List ℕ} {count : ℕ} (v : Valid n ts count) (w : ℕ) where
  pub number_below : {i count' : ℕ} {ts' : List ℕ} → terms.accept i count' ts' ≡ add_of n ts count w → i < 512
  number_below {i} {count'} {ts'} e =
      let a : AddsTerm n ts count w (terms.accept i count' ts') = subst (AddsTerm n ts count w) (sym e) (adds v w) in
      omega (arith, a.is.0, a.valid.room)

-- what came of adding a term to tables
pub term_called : (t : Tables) (kind l r : ℕ) {o : Adding} → o ≡ adding t.realm (add_of t.realm.n t.terms t.realm.terms (packed kind l r))
    → with_adding t o ≡ called t (calls.Term kind l r)
unfolding called
term_called t kind l r e = ap (with_adding t) e

-- a step's call is its step
pub step_called : (t : Tables) (step run a b m time : ℕ) → stepped t (record { step = step; run = run; a = a; b = b; m = m; t = time }) ≡ called t (calls.Step step run a b m time)
unfolding called
step_called t step run a b m time = refl

-- a table that has not grown says old, and with one term more, as the code counts, new
module _ (h : Realm) (i : ℕ) (ts : List ℕ) where
  pub old_told : record { answer = Ok (Old i); realm = h; table = ts } ≡ adding h (terms.accept i h.terms ts)
  old_told = rw (same_old i h.terms)

  pub new_told : record { answer = Ok (New i); realm = with_count h (h.terms + 1); table = ts } ≡ adding h (terms.accept i (suc h.terms) ts)
  new_told = rw (more_new i h.terms, add-one h.terms)
