-- `writer::walk::measure` meets its contract. Assumes nothing.
use Prim.Native.Nat.{◌≤◌, ◌+◌}
use mathlib.Core.Path.{◌≡◌}
use lib.ListN.{length}
use Rattle.records.specs.Headers.{header_width}
use Rattle.raw_records.specs.Raw.{records_of}
use Rattle.raw_records.proofs.Passing.{records_from}
use Rattle.writer.specs.File.{records_in_bytes}
use Rattle.writer.proofs.walk.measure.Given as goal

abbrev pub invariant-loop-i : goal.invariant-loop-i
invariant-loop-i l = (l.bytes ≤ 65536) × (l.bytes + length (records_in_bytes (records_from l.words l.i)) ≡ header_width l.mark + length (records_in_bytes (records_of l.words)))
