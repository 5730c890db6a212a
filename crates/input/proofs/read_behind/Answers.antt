-- `read_behind` meets its contract: each read goes on from where the reads before it ended.
use native.Mathlib.Numerals.{unary_clauses}
use Rattle.input.proofs.Reading.{behind, bytes_in_order}
use Rattle.input.proofs.read_behind.Goals as goal

pub loop-at-preserved : goal.loop-at-preserved
loop-at-preserved g c =
    let before = c.loop-at.invariant in
    let next = c.in-Ok.ensures in
    record { reads = behind before.reads next.reads; bytes = bytes_in_order before.reads next.reads _ _ _ before.bytes next.bytes }

pub returns-in-Err-clause-bytes : goal.returns-in-Err-clause-bytes
returns-in-Err-clause-bytes g c =
    let before = c.loop-at.invariant in
    let next = c.in-Err.ensures in
    simp unary_clauses at (bytes_in_order before.reads next.reads _ _ _ before.bytes next.bytes)
