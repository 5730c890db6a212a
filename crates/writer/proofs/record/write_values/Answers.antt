-- `writer::record::write_values` meets its contract. Assumes nothing.
use Prim.Native.Nat.{◌+◌, ◌≤◌}
use native.Mathlib.Omega.{arith}
use lib.ListN.{length}
use Rattle.fields.proofs.Parts.{part_room, part_wrote}
use Rattle.fields.proofs.Placed.{joined}
use Rattle.writer.specs.File.{lives_in_bytes}
use Rattle.writer.proofs.Progress.{front_long}
use Rattle.std.proofs.Common.{rules}
use Rattle.writer.proofs.record.write_values.Goals as goal

pub slice_bounds-write_lives-count : goal.slice_bounds-write_lives-count
slice_bounds-write_lives-count c =
    let e = c.write_front-end.ensures.offset in
    let l = front_long c.args.width c.args.header in
    let h = c.requires in
    search rules

pub slice_bounds-write_lives-start : goal.slice_bounds-write_lives-start
slice_bounds-write_lives-start c =
    let e = c.write_front-end.ensures.offset in
    let l = front_long c.args.width c.args.header in
    let h = c.requires in
    search rules

pub write_lives-lives-requires : goal.write_lives-lives-requires
write_lives-lives-requires c =
    let f = c.write_front-end in
    let e = f.ensures.offset in
    let l = front_long c.args.width c.args.header in
    let h = c.requires in
    let room : f.result + 8 ≤ length f.new.out = search rules in
    part_room f.new.out f.result 8 room

pub overflow_add-result : goal.overflow_add-result
overflow_add-result c =
    let e = c.write_front-end.ensures.offset in
    let k = c.write_lives-lives.ensures.offset in
    let l = front_long c.args.width c.args.header in
    let h = c.requires in
    search rules

pub returns : goal.returns
returns c =
    let a = c.args in
    let f = c.write_front-end in
    joined (omega arith) f.ensures (part_wrote f.new.out f.result (lives_in_bytes a.header.ls a.header.la) c.write_lives-lives.ensures)
