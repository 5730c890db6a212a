-- A whole walk: every record that was written is taken past its fields by the engine, whatever the records before it came to.
-- Assumes nothing.
use Rattle.std.specs.Prelude.{◌≡◌, List, [], ◌∷◌, ℕ, Err}
use Rattle.exchange.specs.declared.call.Call.{Call}
use Rattle.realm.specs.Tables.{Tables}
use Rattle.effects.specs.Call.{called}
use Rattle.written_answers.specs.Answers.{LeftApart}

-- ---- definitions

-- no call of a list is refused for its own fields; "each call gets the tables that the one before it left"
abbrev pub TakenPast : Tables → List Call → Type 0
TakenPast t [] = Unit {0}
TakenPast t (c ∷ cs) = ((k : ℕ) → (called t c).answer ≡ Err k → LeftApart t c k) × TakenPast (called t c).tables cs
