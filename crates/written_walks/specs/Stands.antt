-- What an answer of `write_of` says: with a count, that the walk passed and where its bytes stand; with a number, that nothing changed.
-- Assumes nothing.
use Rattle.std.specs.Prelude.{◌≡◌, List, ℕ, length}
use Rattle.exchange.specs.declared.header.Header.{Header}
use Rattle.raw_records.specs.Raw.{records_of}
use Rattle.fields.specs.Placed.{placed}
use Rattle.writer.specs.File.{file_of}
use Rattle.writer.specs.Write.{WalkPasses}

-- what an answer with a count says
pub record WalkStands (g : Header) (words buffer : List ℕ) (at count : ℕ) (after : List ℕ) : Type 0 where
  pub passed : WalkPasses g (records_of words) (length buffer) at
  pub count_is : count ≡ length (file_of g (records_of words))
  pub after_is : after ≡ placed buffer at (file_of g (records_of words))
