-- "It writes only what the reader takes past 1 to 6 on its own fields (what depends on the walk's runs and terms apart)" (document 02,
-- change 1), of the public call and of a walk that was written. What depends on the walk is `present` of `raw_records`: a run and a
-- term that are used are present, and a lock's key is a key. Answers and Walks have the two definitions.
-- Assumes nothing.
use Rattle.std.specs.Prelude.{◌≡◌, List, ℕ, Ok}
use Rattle.exchange.specs.declared.header.Header.{Header}
use Rattle.exchange.specs.Formats.{HeaderSized}
use Rattle.realm.specs.declared.header.Realm.{Realm}
use Rattle.realm.specs.Opening.{new_realm}
use Rattle.raw_records.specs.Fit.{Words32}
use Rattle.writer.specs.Write.{write_outcome, write_of}

-- ---- a walk that was written

module _ (g : Header) (fits : HeaderSized g) (words : List ℕ) (w : Words32 words)
    (buffer : List ℕ) (at count : ℕ) (after : List ℕ) (e : write_of g words buffer at ≡ write_outcome (Ok count) after) where
  abbrev pub realm : Realm
  realm = new_realm g
