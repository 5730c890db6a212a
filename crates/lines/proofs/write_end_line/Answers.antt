-- `lines::write_end_line` meets its contract: its five parts, one after the other. Assumes nothing.
use Rattle.fields.proofs.Placed.{joined}
use Prim.Native.Nat.{◌≤◌}
use native.Mathlib.Omega.{arith}
use lib.ListN.{length}
use Rattle.lines.specs.Lines.{end_line}
use Rattle.lines.proofs.write_end_line.Goals as goal

pub returns : goal.returns
unfolding end_line
returns c =
    let fits : c.args.at ≤ length c.args.out.now = omega (arith, c.requires) in
    let runs = c.write_field-runs_end.ensures.0 in
    let wire = c.write_field-wire_end.ensures.0 in
    let cache = c.write_field-cache_end.ensures.0 in
    let clock = c.write_field-clock_end.ensures.0 in
    joined fits (joined fits (joined fits (joined fits runs wire) cache) clock) c.write_text.ensures
