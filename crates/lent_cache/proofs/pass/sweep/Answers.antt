-- `sweep`: no more entries are left than there were.
use Rattle.std.proofs.Common.{◌≡◌, ◌≤◌, length, sym, ap, ◌∙◌, arith, rules}
use Rattle.replay.specs.Cache.{Swept}
use Rattle.replay.proofs.CacheLaws.Pass.{at_below, at_end}
use Rattle.lent_cache.proofs.pass.sweep.Goals as goal

pub invariant_of-result : goal.invariant_of-result
invariant_of-result c =
    let i = c.cache.inside in
    let size : length i.places ≡ 16 = search rules in
    let within : i.count ≤ 16 = c.cache.invariant in
    let l : i.count ≤ length i.places = omega arith in
    omega (arith, at_below c.args.p i.places i.count l, ap (λ (s : Swept). s.count) (c.pass_over-count.ensures ∙ sym (at_end c.args.p i.places i.count l)))
