-- "Places at or past a table's count are never read": tables that are alike below the counts have the same answer to a call, and are
-- alike after it. Reads says it of each table, Decided of what a step comes to, Added of TM.
-- Assumes nothing.
use Rattle.std.specs.Prelude.{◌≡◌}
use Rattle.terms.specs.Number.{terms_of}
use Rattle.replay.specs.Cache.{entries}
use Rattle.rows.specs.Rows.{rows_of}
use Rattle.realm.specs.Tables.{Tables}

-- ---- definitions

-- the same realm and wire, and everything below the counts
pub record Alike (t u : Tables) : Type 0 where
  pub realm : t.realm ≡ u.realm
  pub terms : terms_of t.terms t.realm.terms ≡ terms_of u.terms u.realm.terms
  pub rows : rows_of t.runs t.realm.runs ≡ rows_of u.runs u.realm.runs
  pub wire : t.wire ≡ u.wire
  pub entries : entries t.cache t.realm.entries ≡ entries u.cache u.realm.entries
