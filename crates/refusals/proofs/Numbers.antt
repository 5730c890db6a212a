-- What follows from the definitions of the same name in specs/.
-- Assumes nothing.
use Rattle.std.specs.Prelude.{◌≡◌, Result, Err}
use Rattle.std.specs.Result.{IsErrAnd}
use Rattle.std.proofs.Common.{arith}
use Rattle.std.proofs.lemmas.Result.{err_from_is_err_and}
use Rattle.refusals.specs.declared.Refusal.{Refusal}
use Rattle.refusals.specs.Numbers.{number}

-- 0 is no refusal's number
pub not_0 : (r : Refusal) → number r ≡ 0 → ⊥
not_0 r z = grind arith

-- what a `?` passes up is the refusal that it was given
pub passed_up : {A : Type 0} (r : Result A Refusal) (e : Refusal) → IsErrAnd r (λ (y : Refusal). y ≡ e) → r ≡ Err e
passed_up {A} r e h =
    let p = err_from_is_err_and {T = A} {Q = λ (y : Refusal). y ≡ e} r h in
    rw p.2 at p.1
