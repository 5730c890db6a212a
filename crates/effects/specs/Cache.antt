-- The replay cache after an effect: step 5 "remembers b, K, Ta", step 8 "forgets b's entries whose Ta + La is at or below the
-- clock".
-- Assumes nothing.
use Rattle.std.specs.Prelude.{ℕ, ◌<◌, List}
use Rattle.replay.specs.Cache.{Swept, appending, sweeping}
use Rattle.replay.specs.declared.entry.Entry.{Entry}
use Rattle.realm.specs.declared.header.Realm.{Realm}
use Rattle.decisions.specs.declared.Keeping.{Keeping}
use Rattle.decisions.specs.declared.Keeping.TheVariants.{Same, Remember, Forget}

abbrev pub cache_of : Realm → List Entry → Keeping → Swept
cache_of h c Same = record { places = c; count = h.entries }
cache_of h c (Remember e) = appending c h.entries e
cache_of h c (Forget b) = sweeping c h.entries (record { b = b; clock = h.clock; la = h.la })

-- a place is left for an entry that is remembered
abbrev pub EntryRoom : ℕ → Keeping → Type 0
EntryRoom count Same = Unit {0}
EntryRoom count (Remember e) = count < 16
EntryRoom count (Forget b) = Unit {0}
