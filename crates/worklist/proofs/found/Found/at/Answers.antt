-- `worklist::found::Found::at` meets its contract: what has been found has a place. Assumes nothing.
use Rattle.std.proofs.Common.{◌<◌, ap, arith, rules}
use Rattle.worklist.specs.Found.{Found}
use Rattle.worklist.proofs.FoundLaws.{room_most}
use Rattle.worklist.proofs.found.Found.at.Goals as goal

pub offset_bounds-list-i : goal.offset_bounds-list-i
offset_bounds-list-i c =
    let place : c.args.i < 512 = omega (arith, room_most _ c.self.invariant, c.requires, ap (λ (f : Found). f.count) c.self.view_is) in
    search (rules, place)

pub bounds-list-i : goal.bounds-list-i
bounds-list-i c = omega (arith, room_most _ c.self.invariant, c.requires, ap (λ (f : Found). f.count) c.self.view_is)
