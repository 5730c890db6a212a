-- The call of a record meets its contract. Assumes nothing.
use Rattle.exported.proofs.Numbers.{term_call_lem, step_call_lem}
use Rattle.exported.proofs.CallFromRecord.from.Goals as goal

pub returns-then-q : goal.returns-then-q
returns-then-q c = term_call_lem c.args.q c.if-q.true

pub returns : goal.returns
returns c = step_call_lem c.args.q c.if-q.false
