-- `engine::call::call` meets its contract: by the contract of the call that its kind makes. Assumes nothing.
use Rattle.engine.proofs.Known.{kept_called}
use Rattle.engine.proofs.Ways.{step_called, term_called}
use Rattle.effects.specs.Call.{called}
use Rattle.realm.specs.Tables.{Tables, tables}
use mathlib.Core.Path.{sym, ap, ◌∙◌}
use Rattle.engine.proofs.call.call.Goals as goal
use Rattle.engine.proofs.call.call.Goals.{Start}

-- the tables as they were lent
abbrev lent : Start → Tables
lent c = tables c.args.h c.args.terms.now c.args.runs.now c.args.wire.now c.args.cache

pub returns-in-Term : goal.returns-in-Term
returns-in-Term c =
    let e = term_called (lent (goal.at.returns-in-Term c).Start) _ _ _ c.add_term-answer.ensures ∙ ap (called (lent (goal.at.returns-in-Term c).Start)) (sym c.in-Term.is) in
    record {
      wire_after = e;
      kept_by = kept_called c.requires.0 c.requires.1 c.args.c e;
    }

pub returns-in-Step : goal.returns-in-Step
returns-in-Step c =
    let t = c.take_step.ensures in
    record {
      wire_after = t.wire_after ∙ step_called (lent (goal.at.returns-in-Step c).Start) _ _ _ _ _ _ ∙ ap (called (lent (goal.at.returns-in-Step c).Start)) (sym c.in-Step.is);
      kept_by = t.kept_by;
    }
