-- What is promised beside the contracts of the exported functions, which are equations with the definitions of the crates below, told
-- as numbers by Numbers.
-- Assumes nothing.
use Rattle.std.specs.Prelude.{ℕ, ◌≡◌, refl, List, eqb, length}
use Rattle.terms.proofs.Choice.{cond_elim}
use Rattle.exchange.specs.declared.call.Call.{Call}
use Rattle.replay.specs.declared.entry.Entry.{Entry}
use Rattle.realm.specs.Check.{together}
use Rattle.realm.specs.Opening.{header_fits, realm_fits}
use Rattle.realm.specs.Tables.{tables}
use Rattle.effects.specs.Apply.{Outcome, refuse}
use Rattle.effects.specs.Call.{checked}
use Rattle.calls.specs.Lent.{lent_call}
use Rattle.exported.specs.Numbers.{no_realm}

-- On a realm of zeros every call gives 10, whatever is lent.
pub unopened_10 : (terms runs wire : List ℕ) (list : List Entry) (c : Call) → let t = tables no_realm terms runs wire list in lent_call t c ≡ refuse t 10
unfolding lent_call checked together realm_fits header_fits
unopened_10 terms runs wire list c =
    let t = tables no_realm terms runs wire list in
    cond_elim (λ (o : Outcome). o ≡ refuse t 10) (eqb (length list) 16) (refuse t 10) (refuse t 10) (λ _. refl) (λ _. refl)
