-- `lines::write_file_line` meets its contract: its three parts, one after the other. Assumes nothing.
use Rattle.fields.proofs.Placed.{joined}
use Prim.Native.Nat.{◌≤◌}
use native.Mathlib.Omega.{arith}
use lib.ListN.{length}
use Rattle.lines.proofs.Lengths.{file_length}
use Rattle.lines.specs.Lines.{file_line}
use Rattle.lines.proofs.write_file_line.Goals as goal

pub returns : goal.returns
unfolding file_line
returns c =
    let fits : c.args.at ≤ length c.args.out.now = omega (arith, c.requires) in
    let number = c.write_number-number_end.ensures.0 in
    let refusal = c.write_field-refusal_end.ensures.0 in
    let line = joined fits (joined fits number refusal) c.write_text.ensures in
    record {
      wrote = line;
      upper_bound = λ h. omega (arith, line.offset, file_length 4 c.args.number c.args.refusal (omega (arith, h)) c.ranges.refusal.fits);
    }
