-- `synthesis::lent::tables_hold` meets its contract, test by test. Assumes nothing.
use mathlib.Core.List.{List}
use mathlib.Core.Path.{sym, ap, ◌∙◌}
use Prim.Native.Nat.{ℕ}
use Rattle.std.proofs.Common.{arith}
use Rattle.std.proofs.lemmas.Grind.{common_steps}
use borrow.Author.Tests.{eq-eqb}
use Rattle.marks.specs.Within.{within}
use Rattle.synthesis.specs.Lent.{tables_hold}
use Rattle.synthesis.proofs.lent.tables_hold.Goals as goal

pub returns-then-wire-eq-WIRE_WORDS : goal.returns-then-wire-eq-WIRE_WORDS
unfolding tables_hold
returns-then-wire-eq-WIRE_WORDS c =
    let a = c.args in
    let held = c.if-wire-eq-WIRE_WORDS.true in
    rw (sym c.holds_together.ensures ∙ held.0, eq-eqb _ _ held.1)
    (c.is_within.ensures ∙ ap (λ (ws : List ℕ). within ws a.count) c.load.ensures.0)

pub returns-else-wire-eq-WIRE_WORDS : goal.returns-else-wire-eq-WIRE_WORDS
unfolding tables_hold
returns-else-wire-eq-WIRE_WORDS c = grind (arith, common_steps)
