-- `lines::write_call_line` meets its contract: its four parts, one after the other. Assumes nothing.
use Rattle.fields.proofs.Placed.{joined}
use Prim.Native.Nat.{◌≤◌}
use native.Mathlib.Omega.{arith}
use lib.ListN.{length}
use Rattle.fields.proofs.Decimal.{decimal_short}
use Rattle.lines.specs.Lines.{call_line}
use Rattle.lines.proofs.write_call_line.Goals as goal

pub returns : goal.returns
unfolding call_line
returns c =
    let fits : c.args.at ≤ length c.args.out.now = omega (arith, c.requires) in
    let number = c.write_number-number_end.ensures.0 in
    let mark = c.write_mark-mark_end.ensures in
    let answer = c.write_answer-answer_end.ensures in
    let end = c.write_text.ensures in record {
      wrote = joined fits (joined fits (joined fits number mark.0) answer.0) end;
      upper_bound = λ h. omega (arith, number.offset, mark.1, answer.1, end.offset, decimal_short c.args.number 4 (omega (arith, h)));
    }
