-- What the crate promises beside the contract of `list`, which gives every byte that is written: Listing has its definitions, to be
-- read first. Here is what the listing means: every whole TM and ST record of a file is one call of the list behind demand 3, the
-- lines are those of that list's history, and the theorem holds of it.
-- Assumes nothing.
use Rattle.std.specs.Prelude.{ℕ, ◌≡◌, Ok, List, drop}
use Rattle.exchange.specs.declared.call.Call.{Call}
use Rattle.exchange.specs.declared.header.Header.{Header}
use Rattle.records.specs.Fields.{Bytes}
use Rattle.records.specs.Headers.{header_width, header_of}
use Rattle.records.specs.Calls.{calls_of}
use Rattle.realm.specs.declared.header.Realm.{Realm}
use Rattle.realm.specs.Opening.{opening_of}
use Rattle.walkfile.specs.Traced.{newest_first}

-- ---- the list of calls

-- the file's header opened this realm
pub record HeaderOpens (bytes : List ℕ) (h : Realm) : Type 0 where
  pub small : Bytes bytes
  pub values : Header
  pub read : header_of bytes ≡ Ok values
  pub opened : opening_of values ≡ Ok h

module _ (bytes : List ℕ) (h : Realm) (o : HeaderOpens bytes h) where
  -- what stands behind the header
  abbrev pub rest : List ℕ
  rest = drop (header_width o.values.mark) bytes

  -- the calls of the file, the newest first
  abbrev pub calls : List Call
  calls = newest_first (calls_of rest).calls
