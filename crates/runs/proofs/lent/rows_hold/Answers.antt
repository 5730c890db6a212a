-- `runs::lent::rows_hold` meets its contract: by what `all` finds, or by the test that fails. Assumes nothing.
use mathlib.Core.Path.{◌≡◌, refl}
use mathlib.Core.Bool.{true, false}
use native.Mathlib.Omega.{arith}
use borrow.Author.Tests.{tests}
use Rattle.std.proofs.Common.{rules}
use Rattle.std.proofs.lemmas.Iterator.{cases_from_all, YieldsList-from_range}
use Rattle.terms.proofs.AllOf.{all_is_each}
use Rattle.runs.specs.Lent.{row_holds, rows_hold}
use Rattle.runs.proofs.Decided.{held, not_held}
use Rattle.runs.proofs.lent.rows_hold.Goals as goal

pub returns-then-present-terms : goal.returns-then-present-terms
returns-then-present-terms c =
    let a = c.args in
    let all = all_is_each (row_holds a.n a.runs.now a.terms.now a.present) a.count c.all.result
    (cases_from_all _ _ _ (λ k. row_holds a.n a.runs.now a.terms.now a.present k ≡ true) (λ k. row_holds a.n a.runs.now a.terms.now a.present k ≡ false) c.all.ensures.ran
    (YieldsList-from_range 0 a.count a.count refl (omega arith)) (λ x q k. search (rules, tests)) (λ x q k. search (rules, tests))) in
    held a.n a.runs.now a.count a.terms.now a.present (search rules) (search rules) (search rules) all

pub returns-else-present-terms : goal.returns-else-present-terms
returns-else-present-terms c =
    let a = c.args in
    let no : false ≡ rows_hold a.n a.runs.now a.count a.terms.now a.present = not_held a.n a.runs.now a.count a.terms.now a.present c.if-present-terms.either in
    cc
