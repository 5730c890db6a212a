-- `lent_terms::find_term` meets its contract, by the law for each way out. Assumes nothing.
use mathlib.Core.Bool.{true}
use mathlib.Core.Path.{◌≡◌, sym, ◌∙◌}
use native.Mathlib.Omega.{arith}
use Rattle.lent_terms.proofs.Lent.{lookup_bad, lookup_found}
use Rattle.terms.specs.Valid.{holds}
use Rattle.terms.proofs.Valid.{holds_valid}
use Rattle.lent_terms.proofs.find_term.Goals as goal
use Rattle.lent_terms.proofs.find_term.Goals.{Then-holds_together}

held : (c : Then-holds_together) → let a = c.args in holds a.n a.terms.now a.count ≡ true
held c = sym c.holds_together.ensures ∙ c.if-holds_together.true

pub returns-else-holds_together : goal.returns-else-holds_together
returns-else-holds_together c = let a = c.args in lookup_bad a.n a.terms.now a.count a.word (sym c.holds_together.ensures ∙ c.if-holds_together.false)

pub find-requires : goal.find-requires
find-requires c = let a = c.args in let v = holds_valid a.n a.terms.now a.count (held c) in omega (arith, v.size, v.room)

pub returns-then-holds_together : goal.returns-then-holds_together
returns-then-holds_together c =
    let a = c.args in
    lookup_found a.n a.terms.now a.count a.word (held (goal.at.returns-then-holds_together c).Then-holds_together) c.find.ensures
