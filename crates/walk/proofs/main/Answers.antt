-- `main` is safe: what was written is within the buffer.
use Rattle.walkfile.proofs.Promises.{counts}
use Rattle.walk.proofs.main.Goals as goal

pub slice_bounds-out-end : goal.slice_bounds-out-end
slice_bounds-out-end c = (counts _ _ _ _ c.in-Some.ensures).0

pub slice_bounds-write_all-end : goal.slice_bounds-write_all-end
slice_bounds-write_all-end c = (counts _ _ _ _ c.in-Some.ensures).1
