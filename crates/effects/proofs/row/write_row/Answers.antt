-- `effects::row::write_row` meets its contract, by the law for each way out. Assumes nothing.
use native.Mathlib.Omega.{arith}
use Rattle.effects.proofs.Laws.Row.{next_below, run_opened, row_below, row_set}
use Rattle.effects.proofs.row.write_row.Goals as goal

pub set_run-requires : goal.set_run-requires
set_run-requires c = (next_below c.args.count c.in-Open.is c.requires.1, c.requires.0)

pub overflow_add-result : goal.overflow_add-result
overflow_add-result c = record { fits = omega (arith, next_below c.args.count c.in-Open.is c.requires.1) }

pub set_run-requires-in-Set : goal.set_run-requires-in-Set
set_run-requires-in-Set c = (row_below c.args.count c.in-Set.is c.requires.1, c.requires.0)

pub returns-in-Open : goal.returns-in-Open
returns-in-Open c = run_opened c.args.count c.in-Open.is c.args.runs.now c.set_run.ensures

pub returns-in-Set : goal.returns-in-Set
returns-in-Set c = row_set c.args.count c.in-Set.is c.args.runs.now c.set_run-in-Set.ensures
