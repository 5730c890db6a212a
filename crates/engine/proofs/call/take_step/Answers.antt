-- `engine::call::take_step` meets its contract: a step is refused, or written. Assumes nothing.
use mathlib.Core.Path.{sym, ap, ◌∙◌}
use Rattle.deciding.specs.Decided.{verdict_of}
use Rattle.realm.specs.Tables.{Tables, tables}
use Rattle.engine.proofs.Known.{kept_stepped}
use Rattle.engine.proofs.Ways.{step_refused, step_taken, writable}
use Rattle.engine.proofs.call.take_step.Goals as goal
use Rattle.engine.proofs.call.take_step.Goals.{Start}

-- the tables as they were lent
abbrev lent : Start → Tables
lent c = tables c.args.h c.args.terms.now c.args.runs.now c.args.wire.now c.args.cache

pub apply-requires : goal.apply-requires
apply-requires c =
    (c.requires.0, writable (lent (goal.at.apply-requires c).Start) c.in-Ok.is c.decide.ensures.verdict_value.1)

pub returns-in-Err : goal.returns-in-Err
returns-in-Err c =
    record {
      wire_after = step_refused (lent (goal.at.returns-in-Err c).Start) c.args.s (sym c.decide.ensures.verdict_value.0 ∙ ap verdict_of c.in-Err.is);
      kept_by = c.decide.ensures.kept_by;
    }

pub returns-in-Ok : goal.returns-in-Ok
returns-in-Ok c =
    let e = c.apply.ensures ∙ step_taken (lent (goal.at.returns-in-Ok c).Start) c.args.s (sym c.decide.ensures.verdict_value.0 ∙ ap verdict_of c.in-Ok.is) in
    record {
      wire_after = e;
      kept_by = kept_stepped c.requires.0 c.decide.ensures.kept_by c.args.s e;
    }
