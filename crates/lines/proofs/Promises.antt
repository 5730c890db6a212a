-- What the crate promises beside the contracts of its functions: how long the lines are. Lines has the lines themselves, and
-- what a contract says of the buffer is in the promises of `fields`.
-- Assumes nothing.
use Rattle.std.proofs.Common.{arith}
use Rattle.std.specs.Prelude.{ℕ, ◌^◌, ◌≤◌, ◌<◌, length}
use Rattle.exchange.specs.Calls.{Answer}
use Rattle.exchange.specs.declared.call.Call.{Call}
use Rattle.fields.specs.Lengths.{Narrow}
use Rattle.lines.proofs.Lengths.{call_length, file_length, end_length}
use Rattle.lines.specs.Lines.{header_line, call_line, file_line, end_line, LONGEST}

-- The line of a record whose number is below 100,000 has at most 24 bytes, and the last line at most 64,
pub header_short : (mark : ℕ) → length (header_line mark) ≤ 24
unfolding header_line
header_short mark = omega arith

pub call_short : (number : ℕ) (call : Call) (answer : Answer) → number < 100000 → Narrow answer → length (call_line number call answer) ≤ 24
call_short number call answer h n = omega (arith, call_length 4 number call answer (omega (arith, h)) n)

pub file_short : (number refusal : ℕ) → number < 100000 → refusal < 256 → length (file_line number refusal) ≤ 24
file_short number refusal h k = omega (arith, file_length 4 number refusal (omega (arith, h)) k)

pub end_short : (runs wire cache clock : ℕ) → runs < 100000 → wire < 100000 → cache < 100000 → clock < 2 ^ 32 → length (end_line runs wire cache clock) ≤ 64
end_short runs wire cache clock r w k t = omega (arith, end_length 4 runs wire cache clock (omega (arith, r)) (omega (arith, w)) (omega (arith, k)) t)

-- and whatever their numbers, of 32 bits, none is longer than the room that the functions ask for.
pub call_fits : (number : ℕ) (call : Call) (answer : Answer) → number < 2 ^ 32 → Narrow answer → length (call_line number call answer) ≤ LONGEST
call_fits number call answer h n = omega (arith, call_length 9 number call answer (omega (arith, h)) n)

pub file_fits : (number refusal : ℕ) → number < 2 ^ 32 → refusal < 256 → length (file_line number refusal) ≤ LONGEST
file_fits number refusal h k = omega (arith, file_length 9 number refusal (omega (arith, h)) k)

pub end_fits : (runs wire cache clock : ℕ) → runs < 2 ^ 32 → wire < 2 ^ 32 → cache < 2 ^ 32 → clock < 2 ^ 32 → length (end_line runs wire cache clock) ≤ LONGEST
end_fits runs wire cache clock r w k t = omega (arith, end_length 9 runs wire cache clock (omega (arith, r)) (omega (arith, w)) (omega (arith, k)) t)
