-- `pass_over`: the loop begins with the list as it was, and ends with the entries swept.
use Rattle.std.proofs.Common.{◌≡◌, ◌<◌, length, ap, ◌∙◌, arith}
use Rattle.replay.specs.Cache.{after_read}
use Rattle.replay.proofs.CacheLaws.Pass.{at_none, at_end}
use Rattle.replay.proofs.CacheLaws.Turn.{turn_length, turn_below}
use Rattle.lent_cache.proofs.pass.pass_over.Goals as goal

pub loop-i-init : goal.loop-i-init
loop-i-init c = at_none c.args.p c.args.list.now

pub read_entry-left-requires : goal.read_entry-left-requires
read_entry-left-requires c =
    let l : c.loop-i.i < length c.args.list.now = omega arith in
    let s = turn_length c.args.p c.args.list.now c.loop-i.i c.loop-i.invariant l in
    (omega arith, turn_below c.args.p c.args.list.now c.loop-i.i c.loop-i.invariant l)

pub loop-i-preserved : goal.loop-i-preserved
loop-i-preserved c = c.read_entry-left.ensures c.args.list.now (omega arith) c.loop-i.invariant

pub returns : goal.returns
returns c =
    let a = c.args in
    let e : c.loop-i.i ≡ a.count = omega arith in
    c.loop-i.invariant ∙ ap (after_read a.p a.list.now) e ∙ at_end a.p a.list.now a.count c.requires
