-- `term_table::find` meets its contract. The invariant: the word's place is among those not yet passed. Assumes nothing.
use mathlib.Core.Path.{◌≡◌}
use Prim.Native.Nat.{◌≤◌}
use Rattle.terms.specs.Table.{find_of}
use Rattle.term_table.proofs.find.Given as goal

abbrev pub invariant-loop-i : goal.invariant-loop-i
invariant-loop-i l = (l.i ≤ l.count) × (find_of l.terms l.i l.word ≡ find_of l.terms l.count l.word)

abbrev pub decreases-loop-i : goal.decreases-loop-i
decreases-loop-i l = l.i
