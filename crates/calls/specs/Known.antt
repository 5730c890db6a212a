-- All that the intruder can derive, at once: the set that `known` gives, and that it tells of each term what step 10 tells of it.
-- Assumes nothing.
use Prim.Native.Nat.{ℕ}
use Rattle.std.specs.Prelude.{cond}
use mathlib.Core.List.{List}
use Rattle.synthesis.specs.Lent.{derived_of}
use Rattle.realm.specs.declared.header.Realm.{Realm}
use Rattle.realm.specs.Opening.{realm_fits}
use Rattle.realm.specs.Tables.{Tables}

-- ---- definitions

-- 10 for "a header value as in 2" and for "naming no such set", looked at first; else what the tables give
unfoldable pub known_of : Realm → (ts ws out : List ℕ) → ℕ × List ℕ
known_of h ts ws out = cond (realm_fits h) (derived_of h.n h.flags ts h.terms ws out) (10, out)

-- the same of tables of a realm
abbrev pub known_in : Tables → (out : List ℕ) → ℕ × List ℕ
known_in t out = known_of t.realm t.terms t.wire out
