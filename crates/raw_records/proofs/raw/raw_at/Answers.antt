-- `raw_records::raw::raw_at` meets its contract. Assumes nothing.
use Rattle.raw_records.proofs.RawLaws.{raw_term, raw_step, raw_none}
use Rattle.raw_records.proofs.raw.raw_at.Goals as goal

pub returns-then-mark : goal.returns-then-mark
returns-then-mark c = raw_term _ _ _ _ _ _ _ c.if-mark.true

pub returns-then-mark-2 : goal.returns-then-mark-2
returns-then-mark-2 c = raw_step _ _ _ _ _ _ _ c.if-mark.false c.if-mark-2.true

pub returns : goal.returns
returns c = raw_none _ _ _ _ _ _ _ c.if-mark.false c.if-mark-2.false
