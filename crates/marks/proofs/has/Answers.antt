-- `marks::has` meets its contract: no number past the words is in the set. Assumes nothing.
use mathlib.Core.Path.{sym, ◌∙◌}
use native.Mathlib.Omega.{arith}
use Rattle.std.proofs.lemmas.Bool.{le-ltb}
use Rattle.marks.proofs.Marks.{marked_past}
use Rattle.marks.proofs.has.Goals as goal

pub returns-else-i-lt-PLACES : goal.returns-else-i-lt-PLACES
returns-else-i-lt-PLACES c = le-ltb _ _ (omega arith) ∙ sym (marked_past c.args.set c.args.i (omega arith))
