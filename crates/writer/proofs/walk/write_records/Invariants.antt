-- `writer::walk::write_records` meets its contract. Assumes nothing.
use mathlib.Core.Path.{◌≡◌}
use lib.ListN.{length}
use Rattle.writer.proofs.Progress.{Progress}
use Rattle.writer.proofs.walk.write_records.Given as goal

abbrev pub invariant-loop-i : goal.invariant-loop-i
invariant-loop-i l = (length l.out ≡ length l.initial.out) × Progress l.initial.out l.at l.words l.out l.end l.i
