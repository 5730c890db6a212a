-- `fields::write_number` meets its contract: with the digits of the rest, the buffer is what it is to be. The measure is the rest.
-- Assumes nothing.
use mathlib.Core.Path.{◌≡◌, refl, sym, ap, ◌∙◌}
use Prim.Native.Nat.{◌+◌, ◌-◌, ◌/◌, ◌%◌, ◌≤◌}
use native.Mathlib.Omega.{arith}
use lib.ListN.{length}
use Rattle.std.proofs.Common.{rules}
use Rattle.fields.specs.Fields.{decimal}
use Rattle.fields.specs.Placed.{placed}
use Rattle.fields.proofs.Placed.{placed_one, placed_last}
use Rattle.fields.proofs.Decimal.{decimal_one, decimal_more, length_more}
use Rattle.fields.proofs.write_number.Goals as goal

pub loop-rest-init : goal.loop-rest-init
loop-rest-init c = (search rules, search rules, search rules, refl)

pub overflow_sub-first : goal.overflow_sub-first
overflow_sub-first c = omega (arith, length_more c.loop-rest.rest (search rules))

pub loop-rest-preserved : goal.loop-rest-preserved
loop-rest-preserved c =
    let a = c.args in
    let l = c.loop-rest in
    let ten : 10 ≤ l.rest = search rules in
    let e : l.first - 1 ≡ a.at + length (decimal (l.rest / 10)) = omega (arith, length_more l.rest ten) in (
      search rules,
      e,
      search rules,
      placed_last l.out a.at (decimal (l.rest / 10)) (48 + l.rest % 10) e (search rules) ∙ ap (placed l.out a.at) (sym (decimal_more l.rest ten)) ∙ l.invariant.3,
    )

pub returns : goal.returns
returns c =
    let a = c.args in
    let l = c.loop-rest in (
      record {
        contents =
            placed_one l.out a.at (48 + l.rest) (search rules) ∙ ap (placed l.out a.at) (sym (decimal_one l.rest (search rules))) ∙ l.invariant.3;
        offset = search rules;
      },
      search rules,
    )
