-- `writer::walk::measure` meets its contract. Assumes nothing.
use native.Mathlib.Omega.{arith}
use mathlib.Core.List.{List}
use Prim.Native.Nat.{ℕ, ◌+◌}
use mathlib.Core.Path.{ap}
use lib.ListN.{length}
use Rattle.std.proofs.Common.{rules}
use Rattle.records.proofs.Headers.{width_short}
use Rattle.raw_records.specs.Raw.{records_of}
use Rattle.writer.specs.File.{records_in_bytes}
use Rattle.writer.proofs.Progress.{record_short, length_next, body_end, measured_above, measured_end}
use Rattle.writer.proofs.walk.measure.Goals as goal

pub loop-i-init : goal.loop-i-init
loop-i-init c =
    let e = c.header_width-bytes.ensures in
    (omega (arith, e, width_short c.args.mark), ap (λ (k : ℕ). k + length (records_in_bytes (records_of c.args.words.now))) e)

pub overflow_add-bytes : goal.overflow_add-bytes
overflow_add-bytes c = let h = record_short c.raw_at.result in let e = c.record_width-bytes.ensures in search rules

pub returns-then-bytes-gt-MAX_FILE : goal.returns-then-bytes-gt-MAX_FILE
returns-then-bytes-gt-MAX_FILE c =
    let a = c.args in
    let l = c.loop-i in
    measured_above _ _ c.if-bytes-gt-MAX_FILE.true
    (omega (arith, l.invariant.1, length_next a.words.now l.i (omega (arith, c.loop-i-test.true)) c.raw_at.ensures c.record_width-bytes.ensures))

pub loop-i-preserved : goal.loop-i-preserved
loop-i-preserved c =
    let a = c.args in
    let l = c.loop-i in (
      search rules,
      omega (arith, l.invariant.1, length_next a.words.now l.i (omega (arith, c.loop-i-test.true)) c.raw_at.ensures c.record_width-bytes.ensures),
    )

pub returns : goal.returns
returns c =
    let a = c.args in
    let l = c.loop-i in
    measured_end _ _ (omega (arith, l.invariant.1, ap (λ (b : List ℕ). length b) (body_end a.words.now l.i (omega arith) (omega arith))))
