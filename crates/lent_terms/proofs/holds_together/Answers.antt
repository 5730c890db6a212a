-- `lent_terms::holds_together` meets its contract. Assumes nothing.
use mathlib.Core.Path.{◌≡◌, refl}
use mathlib.Core.Bool.{true, false}
use native.Mathlib.Omega.{arith}
use borrow.Author.Tests.{tests}
use Rattle.std.proofs.Common.{rules}
use Rattle.std.proofs.lemmas.Iterator.{cases_from_all, YieldsList-from_range}
use Rattle.terms.specs.Valid.{stands, holds}
use Rattle.terms.proofs.AllOf.{all_is_each}
use Rattle.lent_terms.proofs.Lent.{holds_by, holds_not}
use Rattle.lent_terms.proofs.holds_together.Goals as goal

pub returns-then-count-le-MAX_TERMS : goal.returns-then-count-le-MAX_TERMS
returns-then-count-le-MAX_TERMS c =
    let a = c.args in
    let all = all_is_each (stands a.n a.terms.now) a.count c.all.result
    (cases_from_all _ _ _ (λ k. stands a.n a.terms.now k ≡ true) (λ k. stands a.n a.terms.now k ≡ false) c.all.ensures.ran
    (YieldsList-from_range 0 a.count a.count refl (omega arith)) (λ x q k. search (rules, tests)) (λ x q k. search (rules, tests))) in
    holds_by a.n a.terms.now a.count c.if-count-le-MAX_TERMS.true.0 c.if-count-le-MAX_TERMS.true.1 all

pub returns-else-count-le-MAX_TERMS : goal.returns-else-count-le-MAX_TERMS
returns-else-count-le-MAX_TERMS c =
    let a = c.args in
    let no : false ≡ holds a.n a.terms.now a.count = holds_not a.n a.terms.now a.count c.if-count-le-MAX_TERMS.either in
    cc
