-- `term_table::find` meets its contract. The invariant: the word's place is among those not yet passed. Assumes nothing.
use mathlib.Core.Path.{◌≡◌, refl, sym, ap, ◌∙◌}
use Prim.Native.Nat.{ℕ}
use native.Mathlib.Nat.{le_refl}
use native.Mathlib.Omega.{arith}
use Rattle.terms.specs.Table.{find_of}
use Rattle.terms.proofs.TableLaws.{find_end, find_here, find_down}
use Rattle.term_table.proofs.find.Goals as goal

pub loop-i-init : goal.loop-i-init
loop-i-init c = (le_refl _, refl)

pub bounds-terms-i : goal.bounds-terms-i
bounds-terms-i c = omega arith

pub returns-then-terms-i : goal.returns-then-terms-i
returns-then-terms-i c =
    sym (find_here c.args.terms.now c.args.word c.loop-i.i c.loop-i-test.true c.if-terms-i.true) ∙ c.loop-i.invariant.1

pub loop-i-preserved : goal.loop-i-preserved
loop-i-preserved c = (
  omega arith,
  sym (find_down c.args.terms.now c.args.word c.loop-i.i c.loop-i-test.true c.if-terms-i.false) ∙ c.loop-i.invariant.1,
)

pub returns : goal.returns
returns c =
    let end : c.loop-i.i ≡ 0 = omega arith in
    sym (find_end c.args.terms.now c.args.word)
    ∙ ap (λ (k : ℕ). find_of c.args.terms.now k c.args.word) (sym end) ∙ c.loop-i.invariant.1
