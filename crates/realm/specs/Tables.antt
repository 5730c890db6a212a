-- The tables of a realm as they are lent, the cache by value, and when they hold together: what refusal 10 looks at (document
-- 01, "What turns a record away, from the state").
-- Assumes nothing.
use Rattle.std.specs.Prelude.{ℕ, ◌^◌, ◌<◌, ◌≤◌, ◌≡◌, true, List, length, get_or}
use Rattle.marks.specs.Marks.{Words, marked}
use Rattle.terms.specs.Valid.{Valid}
use Rattle.runs.specs.Lent.{RowsHold}
use Rattle.replay.specs.declared.entry.Entry.{Entry}
use Rattle.replay.specs.Cache.{empty}
use Rattle.exchange.specs.Forms.{RULE_SETS}
use Rattle.traces.specs.Realm.{HeaderPasses}
use Rattle.realm.specs.declared.header.Realm.{Realm}
use Rattle.realm.specs.Opening.{header}

pub record Tables : Type 0 where
  pub realm : Realm
  pub terms : List ℕ
  pub runs : List ℕ
  pub wire : List ℕ
  pub cache : List Entry

abbrev pub tables : Realm → (terms runs wire : List ℕ) → List Entry → Tables
tables h ts rs ws cache = record { realm = h; terms = ts; runs = rs; wire = ws; cache = cache }

-- not "an entry with b at n or above or K above 95"
pub record EntryFits (n : ℕ) (e : Entry) : Type 0 where
  pub b_below : e.b < n
  pub k_most : e.k ≤ 95

pub record Together (t : Tables) : Type 0 where
  -- not "a header value as in 2"
  pub header_fits : HeaderPasses (header t.realm)
  -- not "tables naming no such set"
  pub rules_known : t.realm.rules < RULE_SETS
  -- "Times are 32 bits"
  pub clock_fits : t.realm.clock < 2 ^ 32
  -- not "a term that breaks the term rules, 5 or 6 or repeats", and the full number of places
  pub terms_hold : Valid t.realm.n t.terms t.realm.terms
  -- not "a run with an unknown role, .. a server run whose K is not its own number or whose key is not a term"
  pub rows_hold : RowsHold t.realm.n t.runs t.realm.runs t.terms t.realm.terms
  -- eight words, and not "a wire mark past the last term"
  pub wire_words : Words 8 t.wire
  pub wire_within : (i : ℕ) → marked t.wire i ≡ true → i < t.realm.terms
  -- sixteen entries, "a count over its limit", and each entry
  pub places : length t.cache ≡ 16
  pub entries_most : t.realm.entries ≤ 16
  pub entries_fit : (i : ℕ) → i < t.realm.entries → EntryFits t.realm.n (get_or t.cache i empty)
