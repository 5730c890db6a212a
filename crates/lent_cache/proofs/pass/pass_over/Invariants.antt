-- `pass_over`: i of the first `count` entries are read.
use Rattle.std.proofs.Common.{◌≡◌}
use Rattle.replay.specs.Cache.{swept, after_read}
use Rattle.lent_cache.proofs.pass.pass_over.Given as goal

abbrev pub invariant-loop-i : goal.invariant-loop-i
invariant-loop-i l = swept l.list l.left ≡ after_read l.p l.fn.list l.i
