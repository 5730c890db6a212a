-- The realm that the header of a written walk opens.
-- Assumes nothing.
use Rattle.std.specs.Prelude.{◌≡◌, List, ℕ, Ok}
use Rattle.std.proofs.Math.Path.{sym}
use Rattle.exchange.specs.declared.header.Header.{Header}
use Rattle.exchange.specs.Formats.{HeaderSized}
use Rattle.realm.specs.Opening.{opening_of}
use Rattle.realm.proofs.Opening.{opened}
use Rattle.raw_records.specs.Fit.{Words32}
use Rattle.writer.specs.Write.{write_outcome, write_of}
use Rattle.written_walks.proofs.Promises.{written_passes}
use Rattle.written_answers.specs.Promises.{realm}

module _ (g : Header) (fits : HeaderSized g) (words : List ℕ) (w : Words32 words)
    (buffer : List ℕ) (at count : ℕ) (after : List ℕ) (e : write_of g words buffer at ≡ write_outcome (Ok count) after) where
  pub header_opens : opening_of g ≡ Ok (realm g fits words w buffer at count after e)
  unfolding opening_of
  header_opens = sym (opened g _ (written_passes g words buffer at count after e).header)
