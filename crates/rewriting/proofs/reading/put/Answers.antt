-- `rewriting::reading::put` meets its contract: the words behind the seven are kept. Assumes nothing.
use Rattle.std.proofs.Common.{◌≡◌, length, length-take, arith}
use Rattle.fields.specs.Placed.{placed}
use Rattle.rewriting.proofs.reading.put.Goals as goal

pub returns : goal.returns
unfolding placed
returns c =
    let h = c.copy_from_slice.ensures in
    let as_many : length c.copy_from_slice.new.self ≡ 7 = omega (arith, h.len, c.requires, length-take 7 c.args.words.now) in
    let long : length c.args.seven ≡ 7 = rw h.after at as_many in
    record { contents = rw (h.after, long); offset = omega (arith, long) }
