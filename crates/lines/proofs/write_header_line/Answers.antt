-- `lines::write_header_line` meets its contract: its three parts, one after the other. Assumes nothing.
use Rattle.fields.proofs.Placed.{joined, wrote_as}
use Prim.Native.Nat.{◌≤◌}
use native.Mathlib.Omega.{arith}
use lib.ListN.{length}
use Rattle.fields.proofs.Bytes.{letters}
use Rattle.lines.specs.Lines.{header_line}
use Rattle.lines.proofs.write_header_line.Goals as goal

pub returns : goal.returns
unfolding header_line
returns c =
    let fits : c.args.at ≤ length c.args.out.now = omega (arith, c.requires) in
    let mark = wrote_as (letters c.args.mark c.ranges.mark.fits) c.write_text-mark_end.ensures in
    joined fits (joined fits c.write_text-number_end.ensures mark) c.write_text.ensures
