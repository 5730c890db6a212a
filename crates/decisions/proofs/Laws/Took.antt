-- What follows from the definitions of the same name in specs/.
-- Assumes nothing.
use Rattle.exchange.specs.declared.call.Call.{Call}
use Rattle.kerberos.specs.Log.{Event}
use Rattle.realm.specs.Tables.{Tables}
use Rattle.decisions.specs.declared.Effect.{Effect}
use Rattle.decisions.specs.Laws.Took.{Took, TookAs}

pub took_as : {t : Tables} {c : Call} {e : Event} {x : Effect} → Took t c e x → TookAs t c x
took_as {e = e} k = record { event = e; took = k }
