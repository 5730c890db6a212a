-- `forget`: each way out is a law of `forgotten`.
use Rattle.std.proofs.Common.{sym, ◌∙◌, ap}
use Rattle.replay.specs.Cache.{done}
use Rattle.replay.proofs.CacheLaws.Calls.{fits_is, misfit_list, misfit_count, forgotten_10, forgotten_ok}
use Rattle.lent_cache.proofs.forget.Goals as goal

pub returns-then-list-ne-PLACES : goal.returns-then-list-ne-PLACES
returns-then-list-ne-PLACES c = let a = c.args in sym (forgotten_10 a.list.now a.count a.p (misfit_list a.list.now a.count c.if-list-ne-PLACES.true))

pub returns-then-count-gt-PLACES : goal.returns-then-count-gt-PLACES
returns-then-count-gt-PLACES c = let a = c.args in sym (forgotten_10 a.list.now a.count a.p (misfit_count a.list.now a.count c.if-count-gt-PLACES.true))

pub returns : goal.returns
returns c =
    let a = c.args in
    ap done c.pass_over.ensures ∙ sym (forgotten_ok a.list.now a.count a.p (fits_is a.list.now a.count c.if-list-ne-PLACES.false c.if-count-gt-PLACES.false))
