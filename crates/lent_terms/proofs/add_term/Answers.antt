-- `lent_terms::add_term` meets its contract: the check, then `add`. Assumes nothing.
use mathlib.Core.Bool.{true}
use mathlib.Core.Path.{◌≡◌, sym, ◌∙◌}
use Rattle.lent_terms.proofs.Lent.{add_term_bad, add_term_by}
use Rattle.terms.specs.Valid.{holds}
use Rattle.terms.proofs.Valid.{holds_valid}
use Rattle.lent_terms.proofs.add_term.Goals as goal
use Rattle.lent_terms.proofs.add_term.Goals.{Else-not-holds_together}

held : (c : Else-not-holds_together) → let a = c.args in holds a.n a.terms.now a.count ≡ true
held c = sym c.holds_together.ensures ∙ c.if-not-holds_together.false

pub returns-then-not-holds_together : goal.returns-then-not-holds_together
returns-then-not-holds_together c = let a = c.args in add_term_bad a.n a.terms.now a.count a.word (sym c.holds_together.ensures ∙ c.if-not-holds_together.true)

pub add-requires : goal.add-requires
add-requires c = let a = c.args in holds_valid a.n a.terms.now a.count (held (goal.at.add-requires c).Else-not-holds_together)

pub returns : goal.returns
returns c =
    let a = c.args in
    add_term_by a.n a.terms.now a.count a.word (held (goal.at.returns c).Else-not-holds_together) c.add.ensures
