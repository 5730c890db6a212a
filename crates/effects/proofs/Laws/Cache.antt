-- A place is left for an entry that is remembered.
-- Assumes nothing.
use Rattle.std.specs.Prelude.{◌≡◌, ℕ, ◌<◌}
use Rattle.std.proofs.Common.{subst}
use Rattle.replay.specs.declared.entry.Entry.{Entry}
use Rattle.decisions.specs.declared.Keeping.{Keeping}
use Rattle.decisions.specs.declared.Keeping.TheVariants.{Remember}
use Rattle.effects.specs.Cache.{EntryRoom}

pub entry_room : {k : Keeping} {x : Entry} → k ≡ Remember x → (count : ℕ) → EntryRoom count k → count < 16
entry_room e count room = subst (EntryRoom count) e room
