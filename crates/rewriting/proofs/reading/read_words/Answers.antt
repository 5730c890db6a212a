-- `rewriting::reading::read_words` meets its contract: the words that were put, and those of the records still to be read, are the
-- file's. Assumes nothing.
use mathlib.Core.Path.{refl, sym, ap, ◌∙◌}
use Prim.Native.Nat.{ℕ, ◌+◌, ◌≤◌}
use native.Mathlib.Omega.{arith}
use lib.ListN.{length}
use Rattle.std.proofs.Common.{rules}
use Rattle.std.specs.Prelude.{Option, Result, Ok}
use Rattle.refusals.proofs.Numbers.{passed_up}
use Rattle.records.specs.declared.record.Record.{Record}
use Rattle.records.specs.Calls.{CallAt}
use Rattle.records.proofs.Promises.{step_on, ends, none_left, breaks}
use Rattle.fields.proofs.Parts.{part_room}
use Rattle.rewriting.proofs.Progress.{seven, starts, next_fits, goes_on, finishes}
use Rattle.rewriting.proofs.reading.read_words.Goals as goal
use Rattle.rewriting.proofs.reading.read_words.Goals.{In-Some}

pub loop-record-init : goal.loop-record-init
loop-record-init c = let a = c.args in (refl, starts a.from a.file.now a.words.now)

abbrev reads : Option Record → Result (Option Record) ℕ
reads o = Ok o

-- the record that was read
was_read : (c : In-Some)
    → CallAt c.args.file.now c.loop-record.at c.in-Some.record.call c.in-Some.record.next
was_read c = step_on _ _ _ _ (sym c.in_ok-record.ensures ∙ ap reads c.in-Some.is)

-- there is room for it
fits : (c : In-Some) → c.loop-record.end + 7 ≤ length c.loop-record.words
fits c =
    let l = c.loop-record in
    omega (arith, l.invariant.0, next_fits c.args.from c.args.file.now c.args.words.now l.words l.at l.end l.invariant.1 (was_read c) c.requires)

pub put_call-written-requires : goal.put_call-written-requires
put_call-written-requires c = part_room c.loop-record.words c.loop-record.end 7 (fits (goal.at.put_call-written-requires c).In-Some)

pub overflow_add-end : goal.overflow_add-end
overflow_add-end c =
    let h = fits (goal.at.overflow_add-end c).In-Some in
    let e = c.put_call-written.ensures.offset in
    let k = seven c.in-Some.record.call in
    search rules

pub loop-record-smaller : goal.loop-record-smaller
loop-record-smaller c = let r = was_read (goal.at.loop-record-smaller c).In-Some in omega (arith, r.later, r.inside)

pub loop-record-preserved : goal.loop-record-preserved
loop-record-preserved c =
    let l = c.loop-record in (
      search rules,
      goes_on c.args.from c.args.file.now c.args.words.now l.words l.at l.end l.invariant.1 (was_read (goal.at.loop-record-preserved c).In-Some) c.put_call-written.ensures,
    )

pub returns-in_err-record : goal.returns-in_err-record
returns-in_err-record c =
    let l = c.loop-record in
    let e = breaks c.args.file.now l.at _ (sym c.in_err-record.ensures) in
    rw (passed_up c.from_residual.result c.in_err-record.field-0.0 c.from_residual.ensures.1, e.number_is)
    (finishes c.args.from c.args.file.now c.args.words.now l.words l.at l.end l.invariant.1 e.last)

pub returns : goal.returns
returns c =
    let l = c.loop-record in
    let e = (ends c.args.file.now l.at).0 (sym c.in_ok-record.ensures ∙ ap reads c.in_default.is) in
    finishes c.args.from c.args.file.now c.args.words.now l.words l.at l.end l.invariant.1 (none_left c.args.file.now l.at e)

pub offset_bounds-words-end : goal.offset_bounds-words-end
offset_bounds-words-end c = let h = fits c in search rules

pub slice_bounds-put_call-count : goal.slice_bounds-put_call-count
slice_bounds-put_call-count c = let h = fits c in search rules

pub slice_bounds-put_call-start : goal.slice_bounds-put_call-start
slice_bounds-put_call-start c = let h = fits c in search rules
