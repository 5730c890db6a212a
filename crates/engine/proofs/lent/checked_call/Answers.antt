-- `engine::lent::checked_call` meets its contract: refused where the check says no, else by the call's contract, with nothing known yet.
-- Assumes nothing.
use Rattle.engine.proofs.Ways.{check_refused, check_passed}
use Rattle.realm.specs.Tables.{Tables, tables}
use Rattle.synthesis.proofs.KnowledgeLaws.{kept_none}
use mathlib.Core.Path.{sym, ◌∙◌}
use Rattle.engine.proofs.lent.checked_call.Goals as goal
use Rattle.engine.proofs.lent.checked_call.Goals.{Start}

-- the tables as they were lent
abbrev lent : Start → Tables
lent c = tables c.args.h c.args.terms.now c.args.runs.now c.args.wire.now c.args.cache

pub returns-then-not-tables_hold : goal.returns-then-not-tables_hold
returns-then-not-tables_hold c =
    check_refused (lent (goal.at.returns-then-not-tables_hold c).Start) c.args.c (sym c.tables_hold.ensures.0 ∙ c.if-not-tables_hold.true)

pub call-requires : goal.call-requires
call-requires c =
    let h = c.args.h in
    (c.tables_hold.ensures.1 c.if-not-tables_hold.false, rw c.new-known.ensures (kept_none h.n h.flags _ h.terms))

pub returns : goal.returns
returns c =
    c.call.ensures.wire_after ∙ check_passed (lent (goal.at.returns c).Start) c.args.c (sym c.tables_hold.ensures.0 ∙ c.if-not-tables_hold.false)
