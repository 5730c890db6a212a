-- `synthesis::lent::can_derive` meets its contract, test by test. Assumes nothing.
use mathlib.Core.Bool.{true}
use mathlib.Core.Path.{◌≡◌, sym, ◌∙◌}
use native.Mathlib.Omega.{arith}
use borrow.Author.Tests.{lt-ltb, le-ltb}
use Rattle.synthesis.proofs.KnowledgeLaws.{kept_none}
use Rattle.synthesis.specs.Lent.{tables_hold, can_derive}
use Rattle.synthesis.proofs.LentLaws.{hold_are}
use Rattle.synthesis.proofs.lent.can_derive.Goals as goal
use Rattle.synthesis.proofs.lent.can_derive.Goals.{Else-not-tables_hold}

held : (c : Else-not-tables_hold) → let a = c.args in tables_hold a.who.n a.terms.now a.count a.wire.now ≡ true
held c = sym c.tables_hold.ensures ∙ c.if-not-tables_hold.false

pub returns-then-not-tables_hold : goal.returns-then-not-tables_hold
unfolding can_derive
returns-then-not-tables_hold c = rw (sym c.tables_hold.ensures ∙ c.if-not-tables_hold.true)

pub returns-then-count-t : goal.returns-then-count-t
unfolding can_derive
returns-then-count-t c =
    let a = c.args in
    rw (held (goal.at.returns-then-count-t c).Else-not-tables_hold, le-ltb a.t a.count (omega arith))

pub derivable-requires : goal.derivable-requires
derivable-requires c =
    let a = c.args in
    let h = hold_are a.who.n a.terms.now a.count a.wire.now (held (goal.at.derivable-requires c).Else-not-tables_hold) in
    (h.0, h.1, h.2, rw c.new-known.ensures (kept_none a.who.n a.who.flags a.terms.now a.count), omega arith)

pub returns : goal.returns
unfolding can_derive
returns c =
    let a = c.args in
    rw (held (goal.at.returns c).Else-not-tables_hold, lt-ltb a.t a.count (omega arith), c.derivable.ensures.0)
