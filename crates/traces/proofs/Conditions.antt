-- What follows from the definitions of the same name in specs/.
-- Assumes nothing.
use Rattle.terms.specs.Message.{Message}
use Rattle.deduction.proofs.Secrecy.{derives_more}
use Rattle.traces.specs.Lists.{◌⊑◌}
use Rattle.traces.specs.Logs.{Log}
use Rattle.traces.proofs.Logs.{wire_later}
use Rattle.traces.specs.Realm.{Realm}
use Rattle.traces.specs.Conditions.{Derivable}

-- What could be derived at a point can be derived later.
pub derivable_later : {Event : Type 0} (R : Realm) {p l : Log Event} {m : Message} → p ⊑ l → Derivable R p m → Derivable R l m
derivable_later R s h = derives_more (wire_later s) h
