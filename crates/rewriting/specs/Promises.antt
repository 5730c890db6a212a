-- What the crate promises beside the contract of `rewrite`, which says that it gives `rewritten_of` of the lent file. Reading and
-- Rewriting have the definitions.
-- Assumes nothing.
use Rattle.std.proofs.Math.Path.{◌≡◌}
use Rattle.std.specs.Prelude.{List, map, ℕ}
use Rattle.exchange.specs.declared.call.Call.{Call}
use Rattle.exchange.specs.declared.header.Header.{Header}
use Rattle.realm.specs.Opening.{header_refusal}
use Rattle.raw_records.specs.Refusals.{records_refusal}
use Rattle.raw_records.specs.Calls.{raw_for}
use Rattle.written_walks.specs.ReadBack.{ReadsAs}

-- a file that reads to its end, and whose header and records pass by their own fields
pub record Writable (file : List ℕ) : Type 0 where
  pub values : Header
  pub calls : List Call
  pub reads : ReadsAs file values calls
  pub header_passes : header_refusal values ≡ 0
  pub records_pass : records_refusal values.n (map raw_for calls) ≡ 0
