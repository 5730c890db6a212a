-- "What it wrote is read back as the same records, and a file so read is written back as the same bytes."
-- Assumes nothing.
use Rattle.std.specs.Prelude.{◌≡◌, Ok}
use mathlib.Core.List.{List}
use Prim.Native.Nat.{ℕ}
use Rattle.std.proofs.Math.ListN.{drop}
use Rattle.exchange.specs.declared.call.Call.{Call}
use Rattle.exchange.specs.declared.header.Header.{Header}
use Rattle.records.specs.Headers.{header_width, header_of}
use Rattle.records.specs.Calls.{ended}
use Rattle.records.specs.Calls as reading

-- ---- definitions

-- a file reads as this header and these calls, to its end
pub record ReadsAs (bytes : List ℕ) (g : Header) (calls : List Call) : Type 0 where
  pub header : header_of bytes ≡ Ok g
  pub records : reading.calls_of (drop (header_width g.mark) bytes) ≡ record { calls = calls; ending = ended }
