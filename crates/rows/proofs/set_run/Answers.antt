-- `rows::set_run` meets its contract: the part lent comes back as the row's words. Assumes nothing.
use Rattle.std.proofs.Common.{◌∙◌}
use Rattle.rows.proofs.Runs.{written_part}
use Rattle.rows.proofs.set_run.Goals as goal

pub returns : goal.returns
returns c = written_part _ _ _ _ (c.copy_from_slice.ensures.after ∙ c.encode.ensures)
