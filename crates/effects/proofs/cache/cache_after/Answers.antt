-- `effects::cache::cache_after` meets its contract, by the law for each way out. Assumes nothing.
use Rattle.effects.proofs.Laws.Cache.{entry_room}
use Rattle.effects.proofs.cache.cache_after.Goals as goal

pub append-requires : goal.append-requires
append-requires c = entry_room c.in-Remember.is c.args.h.entries c.requires.1

pub returns-in-Same : goal.returns-in-Same
returns-in-Same c = rw c.in-Same.is

pub returns-in-Remember : goal.returns-in-Remember
returns-in-Remember c = rw c.in-Remember.is c.append.ensures

pub returns-in-Forget : goal.returns-in-Forget
returns-in-Forget c = rw c.in-Forget.is c.sweep.ensures
