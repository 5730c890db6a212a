-- `worklist::found::Found::on_wire` meets its contract. The invariant: the terms on the wire below i have been found. Assumes nothing.
use mathlib.Core.Path.{◌≡◌}
use Rattle.worklist.specs.Found.{blank, start_of}
use Rattle.worklist.proofs.found.Found.on_wire.Given as goal

abbrev pub invariant-loop-i : goal.invariant-loop-i
invariant-loop-i l = l.found ≡ start_of l.wire l.i blank
