-- `remember`: a list of other than sixteen places is refused.
use Rattle.std.proofs.Common.{sym}
use Rattle.replay.proofs.CacheLaws.Calls.{misfit_list, remembered_10}
use Rattle.lent_cache.proofs.remember.Goals as goal

pub returns-then-list-ne-PLACES : goal.returns-then-list-ne-PLACES
returns-then-list-ne-PLACES c = let a = c.args in sym (remembered_10 a.list.now a.count a.e (misfit_list a.list.now a.count c.if-list-ne-PLACES.true))
