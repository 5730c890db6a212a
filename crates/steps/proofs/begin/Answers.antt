-- `steps::begin` meets its contract: by the law for each way out. Assumes nothing.
use mathlib.Core.Path.{ap, ◌∙◌}
use Rattle.std.specs.Prelude.{Ok}
use Rattle.steps.proofs.Laws.{no_room, run_opened}
use Rattle.steps.proofs.begin.Goals as goal

pub returns-then-h-ge-MAX_RUNS : goal.returns-then-h-ge-MAX_RUNS
returns-then-h-ge-MAX_RUNS c = let a = c.args in no_room a.h a.role a.a a.b a.sends c.if-h-ge-MAX_RUNS.true

pub returns : goal.returns
returns c =
    let a = c.args in
    ap Ok c.opened.ensures ∙ run_opened a.h a.role a.a a.b a.sends c.if-h-ge-MAX_RUNS.false
