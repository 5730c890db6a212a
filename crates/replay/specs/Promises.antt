-- What the replay cache promises. The contracts of `src/` say that each call comes to `remembered` or `forgotten`; here is what
-- that means for the entries (one is appended, or they are filtered) and for every place of the list. Assumes nothing.
use Rattle.std.specs.Prelude.{◌≡◌, Result, Ok, Err, ℕ, ◌+◌, ◌<◌, ◌≤◌, true, false, get_or, drop}
use mathlib.Core.List.{List, [], ◌∷◌, ◌++◌}
use Rattle.replay.specs.declared.entry.Entry.{Entry}
use Rattle.replay.specs.declared.entry.Purge.{Purge}
use Rattle.replay.specs.Cache.{empty, present, kept, entries, CacheOutcome, refused, accepted, done, after_read, fits, forgotten}

-- An accepted `remember`: the entry was absent and a place was left; the entry is appended, and the places behind it keep their values.
pub record Remembers (list : List Entry) (count : ℕ) (e : Entry) (n : ℕ) (after : List Entry) : Type 0 where
  pub absent : present (entries list count) e ≡ false
  pub room : count < 16
  pub counted : n ≡ count + 1
  pub appended : entries after n ≡ entries list count ++ (e ∷ [])
  pub behind : drop n after ≡ drop n list
  pub fitting : fits after n ≡ true

-- An accepted `forget`: the entries are those that stay, in their order; the places that come free are empty, and those behind
-- the old count keep their values.
pub record Forgets (list : List Entry) (count : ℕ) (p : Purge) (n : ℕ) (after : List Entry) : Type 0 where
  pub fewer : n ≤ count
  pub filtered : entries after n ≡ kept p (entries list count)
  pub freed : (i : ℕ) → n ≤ i → i < count → get_or after i empty ≡ empty
  pub behind : drop count after ≡ drop count list
  pub fitting : fits after n ≡ true

-- Document 02, change 4: "after each entry read the list is the kept ones of those read, in their order, then places of 0, then those
-- not yet read, unchanged. At the end the entries kept, their order, the count and the freed places are those of document 01." The
-- contract of `lent_cache::pass::read_entry` says that one turn of the pass goes from `after_read` at i to that at i + 1.
pub record OnePass (list : List Entry) (count : ℕ) (p : Purge) : Type 0 where
  pub each : (i : ℕ) → i ≤ count → Forgets list i p (after_read p list i).count (after_read p list i).places
  pub ended : forgotten list count p ≡ done (after_read p list count)

-- ---- "Places at or past a table's count are never read": two lists with the same entries get the same answer

abbrev pub answered : CacheOutcome → Result ℕ ℕ
answered (refused number list) = Err number
answered (accepted count list) = Ok count
