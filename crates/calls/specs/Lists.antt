-- Lists of public calls: "Each call gets the tables that the one before it left", the newest first.
-- Assumes nothing.
use Rattle.std.specs.Prelude.{List, [], ◌∷◌}
use Rattle.exchange.specs.declared.call.Call.{Call}
use Rattle.traces.specs.RuleSets.{History}
use Rattle.realm.specs.Tables.{Tables}
use Rattle.calls.specs.Lent.{lent_call}

-- the tables after the calls
abbrev pub lent_after : Tables → List Call → Tables
lent_after t [] = t
lent_after t (c ∷ cs) = (lent_call (lent_after t cs) c).tables

-- the calls with their answers
abbrev pub lent_history : Tables → List Call → History
lent_history t [] = []
lent_history t (c ∷ cs) = (c, (lent_call (lent_after t cs) c).answer) ∷ lent_history t cs
