-- What the public call answers to a record, by what the writer says of it.
-- Assumes nothing.
use Rattle.std.specs.Prelude.{◌≡◌, ◌⊎◌, false, ℕ, ◌≤◌}
use Rattle.exchange.specs.declared.call.Call.{Call}
use Rattle.realm.specs.Tables.{Tables}
use Rattle.raw_records.specs.Apart.{walk_has}

-- ---- definitions

-- a number that a record's own fields do not give: 6 for a run or a term that the tables have not or a key of another kind, or one
-- of those that are looked at behind the fields, or 10 for the tables themselves
abbrev pub LeftApart : Tables → Call → ℕ → Type 0
LeftApart t c k = ((k ≡ 6) × (walk_has t.realm t.terms c ≡ false)) ⊎ (10 ≤ k)
