-- `Cache::append` meets its contract: a store at the count. Assumes nothing.
use Rattle.std.proofs.Common.{◌≡◌, ◌∙◌, ap, length, arith, rules}
use Rattle.replay.specs.Cache.{Swept, appending}
use Rattle.replay.proofs.CacheLaws.Places.{appended}
use Rattle.replay.proofs.cache.Cache.append.Goals as goal

pub returns : goal.returns
returns c =
    let i = c.self.inside in
    let size : length i.places ≡ 16 = search rules in
    appended i.places i.count c.args.e (omega (arith, ap (λ (s : Swept). s.count) c.self.view_is)) ∙ ap (λ (s : Swept). appending s.places s.count c.args.e) c.self.view_is
