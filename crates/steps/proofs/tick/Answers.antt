-- `steps::tick` meets its contract: by the law for each way out. Assumes nothing.
use mathlib.Core.Path.{ap, ◌∙◌}
use Rattle.std.specs.Prelude.{Ok}
use Rattle.steps.proofs.Laws.{clock_back, clock_set}
use Rattle.steps.proofs.tick.Goals as goal

pub returns-then-t-h : goal.returns-then-t-h
returns-then-t-h c = let a = c.args in clock_back a.h a.t c.if-t-h.true

pub returns : goal.returns
returns c = let a = c.args in ap Ok c.rest.ensures ∙ clock_set a.h a.t c.if-t-h.false
