-- `fields::digits` meets its contract: the digits that are counted, and those of the rest, are the number's and one more. The
-- measure is the rest. Assumes nothing.
use mathlib.Core.Path.{◌≡◌}
use Prim.Native.Nat.{◌≤◌}
use native.Mathlib.Omega.{arith}
use lib.ListN.{length}
use Rattle.std.proofs.Common.{rules}
use Rattle.fields.specs.Fields.{decimal}
use Rattle.fields.proofs.Decimal.{length_one, length_more, decimal_short}
use Rattle.fields.proofs.digits.Goals as goal
use Rattle.fields.proofs.digits.Goals.{Start}

-- ten digits are enough
short : (c : Start) → length (decimal c.args.number) ≤ 10
short c = decimal_short c.args.number 9 (omega (arith, c.ranges.number.fits))

pub overflow_add-count : goal.overflow_add-count
overflow_add-count c = omega (arith, short (goal.at.overflow_add-count c).Start)

pub loop-rest-preserved : goal.loop-rest-preserved
loop-rest-preserved c = omega (arith, length_more c.loop-rest.rest (search rules))

pub returns : goal.returns
returns c =
    let e : c.loop-rest.count ≡ length (decimal c.args.number) = omega (arith, length_one c.loop-rest.rest (search rules)) in
    (e, omega (arith, e, short (goal.at.returns c).Start))
