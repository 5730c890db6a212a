-- `writer::walk::write_records` meets its contract. Assumes nothing.
use native.Mathlib.Omega.{arith}
use mathlib.Core.Path.{refl}
use Rattle.std.proofs.Common.{rules}
use Rattle.fields.proofs.Parts.{part_room}
use Rattle.writer.proofs.Progress.{starts, end_within, next_fits, goes_on, finishes}
use Rattle.writer.proofs.walk.write_records.Goals as goal

pub loop-i-init : goal.loop-i-init
loop-i-init c = (refl, starts c.args.out.now c.args.at c.args.words.now c.requires)

pub slice_bounds-write_record-count : goal.slice_bounds-write_record-count
slice_bounds-write_record-count c =
    let l = c.loop-i in
    let h = end_within c.args.out.now c.args.at c.args.words.now c.requires l.out l.end l.i l.invariant.1 in
    search rules

pub slice_bounds-write_record-start : goal.slice_bounds-write_record-start
slice_bounds-write_record-start c =
    let l = c.loop-i in
    let h = end_within c.args.out.now c.args.at c.args.words.now c.requires l.out l.end l.i l.invariant.1 in
    search rules

pub write_record-end-requires : goal.write_record-end-requires
write_record-end-requires c =
    let l = c.loop-i in
    part_room l.out l.end _
    (omega (arith, l.invariant.0, next_fits c.args.out.now c.args.at c.args.words.now c.requires l.out l.end l.i l.invariant.1 (omega (arith, c.loop-i-test.true)) c.raw_at-raw.ensures))

pub overflow_add-end : goal.overflow_add-end
overflow_add-end c =
    let l = c.loop-i in
    let h = next_fits c.args.out.now c.args.at c.args.words.now c.requires l.out l.end l.i l.invariant.1 (omega (arith, c.loop-i-test.true)) c.raw_at-raw.ensures in
    let e = c.write_record-end.ensures.offset in
    search rules

pub loop-i-preserved : goal.loop-i-preserved
loop-i-preserved c =
    let l = c.loop-i in (
      search rules,
      goes_on c.args.out.now c.args.at c.args.words.now c.requires l.out l.end l.i l.invariant.1 (omega (arith, c.loop-i-test.true)) c.raw_at-raw.ensures c.write_record-end.ensures,
    )

pub shape_of-out : goal.shape_of-out
shape_of-out c = c.loop-i.invariant.0

pub returns : goal.returns
returns c =
    let l = c.loop-i in
    finishes c.args.out.now c.args.at c.args.words.now c.requires l.out l.end l.i l.invariant.1 (omega arith) (omega arith)
