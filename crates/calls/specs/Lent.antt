-- What a call on the caller's own tables comes to (document 01): the answer, and every table afterwards, place by place.
-- Assumes nothing.
use Rattle.std.specs.Prelude.{cond, ℕ, List, eqb, length}
use Rattle.refusals.specs.Numbers.{numbered}
use Rattle.exchange.specs.declared.call.Call.{Call}
use Rattle.replay.specs.declared.entry.Entry.{Entry}
use Rattle.realm.specs.Tables.{Tables, tables}
use Rattle.effects.specs.Apply.{Outcome, refuse}
use Rattle.effects.specs.Call.{checked}
use Rattle.engine.specs.declared.call.Called.{Called}

-- what the code gave back, beside the lent tables
abbrev pub lent_outcome : Called → (terms runs wire : List ℕ) → List Entry → Outcome
lent_outcome r ts rs ws list = record { answer = numbered r.answer; tables = tables r.realm ts rs ws list }

-- 10 for "a table lent with other than its full number of places", looked at first; else as by value
unfoldable pub lent_call : Tables → Call → Outcome
lent_call t c = cond (eqb (length t.cache) 16) (checked t c) (refuse t 10)
