-- What follows from the definitions of the same name in specs/.
-- Assumes nothing.
use Rattle.std.specs.Prelude.{◌≡◌, length}
use Rattle.std.proofs.Common.{eq-eqb, ne_eqb}
use Rattle.exchange.specs.declared.call.Call.{Call}
use Rattle.realm.specs.Tables.{Tables}
use Rattle.effects.specs.Apply.{refuse}
use Rattle.effects.specs.Call.{checked}
use Rattle.calls.specs.Lent.{lent_call}

-- ---- by its cases

module _ (t : Tables) (c : Call) where
  pub lent_checked : length t.cache ≡ 16 → checked t c ≡ lent_call t c
  unfolding lent_call
  lent_checked e = rw (eq-eqb (length t.cache) 16 e)

  pub lent_10 : (length t.cache ≡ 16 → ⊥) → refuse t 10 ≡ lent_call t c
  unfolding lent_call
  lent_10 n = rw (ne_eqb (length t.cache) 16 n)
