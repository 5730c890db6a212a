-- `marks::with` meets its contract: a number past the words changes nothing. Assumes nothing.
use mathlib.Core.Path.{sym}
use native.Mathlib.Omega.{arith}
use Rattle.marks.proofs.Marks.{with_past}
use Rattle.marks.proofs.with.Goals as goal

pub returns-else-i-lt-PLACES : goal.returns-else-i-lt-PLACES
returns-else-i-lt-PLACES c = sym (with_past c.args.set c.args.i (omega arith))
