-- A lent table of runs that holds together: the runs' part of refusal 10. `RowsHold` says what it is; `rows_hold` is the same as
-- a test that computes, which the promise of the public call cites (`Decided` shows that they are the same).
-- Assumes nothing.
use Rattle.std.specs.Prelude.{◌≡◌, Bool, true, false, not, ◌&&◌, List, ℕ, ◌*◌, ◌<◌, ◌≤◌, ltb, leb, eqb, length, get_or}
use Rattle.words.specs.declared.Term.TheVariants.{SessionKey}
use Rattle.terms.specs.Table.{find_of}
use Rattle.terms.specs.Valid.{is_nothing}
use Rattle.words.specs.Word.{word_of}
use Rattle.exchange.specs.declared.run.Role.{Role}
use Rattle.exchange.specs.declared.run.Role.TheVariants.{Initiator, Responder, Server}
use Rattle.exchange.specs.declared.run.Stage.{Stage}
use Rattle.exchange.specs.declared.run.Stage.TheVariants.{Opened, Authenticated, Done}
use Rattle.exchange.specs.declared.run.Row.{Row}
use Rattle.traces.specs.Conditions.{Apart}
use Rattle.terms.specs.AllOf.{each}
use Rattle.rows.specs.Row.{width, is_row, words_of}
use Rattle.rows.specs.Runs.{Full, words_at, run_at}

-- ---- what it is

-- "initiator opened, after 4, done; responder opened, done after 5; server done"
abbrev pub has_stage : Role → Stage → Bool
has_stage Initiator s = true
has_stage Responder Opened = true
has_stage Responder Authenticated = false
has_stage Responder Done = true
has_stage Server Opened = false
has_stage Server Authenticated = false
has_stage Server Done = true

-- not "barred by 6": "party at n or above", and "in steps 1 and 2, a or b is 0, or a equals b"
pub record PrincipalsFit (n a b : ℕ) : Type 0 where
  pub a_below : a < n
  pub b_below : b < n
  pub apart : Apart a b

-- session key k is a term
pub record KeyStands (ts : List ℕ) (count k : ℕ) : Type 0 where
  pub place : ℕ
  pub below : place < count
  pub here : get_or ts place 0 ≡ word_of (SessionKey k)

-- none of "a run with .. a stage its role lacks, a or b as barred by 6, or K above 95, a server run whose K is not its own number
-- or whose key is not a term"
pub record RunHolds (n : ℕ) (ts : List ℕ) (present r : ℕ) (x : Row) : Type 0 where
  pub stage : has_stage x.role x.stage ≡ true
  pub principals : PrincipalsFit n x.a x.b
  pub key : x.k ≤ 95
  pub server : x.role ≡ Server → (x.k ≡ r) × KeyStands ts present x.k

-- the words of row r are those of a row: no "unknown role" or stage, and bytes where a row has bytes. A word that is no byte is
-- barred besides: n is a byte.
abbrev pub Written : List ℕ → ℕ → Type 0
Written runs r = words_at runs r ≡ words_of (run_at runs r)

-- none of "a table lent with other than its full number of places, a count over its limit", and each run holds
pub record RowsHold (n : ℕ) (runs : List ℕ) (count : ℕ) (ts : List ℕ) (present : ℕ) : Type 0 where
  pub size : Full runs
  pub room : count ≤ 64
  pub terms_room : present ≤ length ts
  pub written : (r : ℕ) → r < count → Written runs r
  pub holds : (r : ℕ) → r < count → RunHolds n ts present r (run_at runs r)

-- ---- the same as a test

abbrev pub principals_fit : (n a b : ℕ) → Bool
principals_fit n a b = ltb a n && ltb b n && not (eqb a 0) && not (eqb b 0) && not (eqb a b)

unfoldable pub key_stands : List ℕ → (count k : ℕ) → Bool
key_stands ts count k = not (is_nothing (find_of ts count (word_of (SessionKey k))))

abbrev pub key_holds : List ℕ → (present r : ℕ) → Role → ℕ → Bool
key_holds ts present r Initiator k = true
key_holds ts present r Responder k = true
key_holds ts present r Server k = eqb k r && key_stands ts present k

unfoldable pub run_holds : (n : ℕ) → List ℕ → (present r : ℕ) → Row → Bool
run_holds n ts present r x = principals_fit n x.a x.b && has_stage x.role x.stage && leb x.k 95 && key_holds ts present r x.role x.k

unfoldable pub row_holds : (n : ℕ) (runs ts : List ℕ) (present r : ℕ) → Bool
row_holds n runs ts present r = is_row (words_at runs r) && run_holds n ts present r (run_at runs r)

unfoldable pub rows_hold : (n : ℕ) (runs : List ℕ) (count : ℕ) (ts : List ℕ) (present : ℕ) → Bool
rows_hold n runs count ts present = eqb (length runs) (64 * width) && leb count 64 && leb present (length ts) && each (row_holds n runs ts present) count
