-- `walkfile::walk_records` meets its contract. Assumes nothing.
use mathlib.Core.Path.{◌≡◌, refl, sym, ap, ◌∙◌}
use Prim.Native.Nat.{ℕ, ◌+◌, ◌≤◌}
use native.Mathlib.Omega.{arith}
use lib.ListN.{length}
use Rattle.realm.specs.Tables.{tables}
use Rattle.synthesis.proofs.KnowledgeLaws.{kept_none}
use Rattle.std.specs.Prelude.{Option, Some, None, Result, Ok}
use Rattle.std.proofs.Common.{rules}
use Rattle.refusals.specs.Numbers.{numbered}
use Rattle.records.specs.declared.record.Record.{Record}
use Rattle.records.specs.Fields.{Bytes}
use Rattle.records.specs.Records.{record_at}
use Rattle.records.proofs.Promises.{step_on}
use Rattle.effects.specs.Apply.{outcome}
use Rattle.lines.specs.Lines.{file_line, end_line}
use Rattle.fields.proofs.Placed.{wrote_as}
use Rattle.lines.proofs.Promises.{header_short}
use Rattle.walkfile.specs.Listing.{new_tables, tables_line}
use Rattle.walkfile.proofs.Walking.{BeforeLast, record_lines, starts, goes_on, advances, few, ends_whole, ends_broken, ready_as, finishes}
use Rattle.walkfile.proofs.walk_records.Goals as goal
use Rattle.walkfile.proofs.walk_records.Goals.{in_default, in_default-2, then-at-file, else-at-file, In-Ok-Some, At-loop-record, Joined-at-file}

-- what the entry of the function knows
bytes-file : (c : At-loop-record) → Bytes c.args.file.now
bytes-file c = record { small = λ k. (c.shared_slice_known-1.given k).fits }

-- the records are few, and what is written is short
room : (c : At-loop-record) → (c.loop-record.number ≤ 9361) × (c.loop-record.end + 24 + 70 ≤ length c.loop-record.out)
room c =
    let s = c.loop-record.invariant.5 in
    let n = few _ _ _ _ _ _ _ _ _ s c.requires.0.most in
    (n, omega (arith, n, s.short, c.loop-record.invariant.0, c.write_header_line-end.auto.out, c.requires.1))

-- the records are few, and what is written is short
room-joined-at-file : (c : Joined-at-file) → (c.loop-record.number ≤ 9361) × (c.loop-record.end + 24 + 70 ≤ length c.loop-record.out)
room-joined-at-file c =
    let s = c.loop-record.invariant.5 in
    let n = few _ _ _ _ _ _ _ _ _ s c.requires.0.most in
    (n, omega (arith, n, s.short, c.loop-record.invariant.0, c.write_header_line-end.auto.out, c.requires.1))

pub loop-record-init : goal.loop-record-init
unfolding new_tables
loop-record-init c =
    let w = c.write_header_line-end in (
      refl,
      refl,
      refl,
      refl,
      rw c.new-known.ensures (kept_none c.args.h.n c.args.h.flags _ c.args.h.terms),
      starts c.args.file.now w.new.out c.args.h c.args.mark w.result c.header_width-at.ensures c.requires.0
          (omega (arith, w.ensures.offset, header_short c.args.mark)) (omega (arith, w.auto.out, c.requires.1)),
    )

pub call-after-requires : goal.call-after-requires
call-after-requires c = let at = c.loop-record in (at.invariant.5.together, at.invariant.4)

pub write_call_line-end-requires : goal.write_call_line-end-requires
write_call_line-end-requires c = omega (arith, (room (goal.at.write_call_line-end-requires c).At-loop-record).1)

pub overflow_add-number : goal.overflow_add-number
overflow_add-number c = omega (arith, (room (goal.at.overflow_add-number c).At-loop-record).0)

abbrev read_as : Option Record → Result (Option Record) ℕ
read_as o = Ok o

-- the record that was read
was_read : (c : In-Ok-Some) → record_at c.args.file.now c.loop-record.at ≡ Ok (Some c.in-Ok-Some.record)
was_read c = sym c.in-Ok-Some.ensures ∙ ap read_as c.in-Ok-Some.field-0-is

pub loop-record-smaller : goal.loop-record-smaller
loop-record-smaller c = advances _ _ _ _ _ _ _ _ _ c.loop-record.invariant.5 _ _ (was_read (goal.at.loop-record-smaller c).In-Ok-Some)

pub loop-record-preserved : goal.loop-record-preserved
loop-record-preserved c =
    let w = c.write_call_line-end in
    let k = c.call-after in
    let l = c.loop-record in
    let h = c.write_header_line-end in
    let a = c.args in
    let t = tables l.realm l.terms l.runs l.wire l.cache in
    let read = was_read (goal.at.loop-record-preserved c).In-Ok-Some in
    let sized = (step_on a.file.now l.at c.in-Ok-Some.record.call c.in-Ok-Some.record.next read).sized (bytes-file (goal.at.loop-record-preserved c).At-loop-record) in (
      w.auto.out ∙ l.invariant.0,
      k.auto.terms ∙ l.invariant.1,
      k.auto.runs ∙ l.invariant.2,
      k.auto.wire ∙ l.invariant.3,
      k.ensures.kept_by,
      goes_on a.file.now h.new.out h.result (record_lines a.h a.mark a.file.now) l.out t l.at l.number l.end l.invariant.5 c.in-Ok-Some.record.call c.in-Ok-Some.record.next
          (outcome k.result k.new.terms k.new.runs k.new.wire) w.new.out w.result read sized k.ensures.wire_after w.ensures.wrote (w.ensures.upper_bound (omega (arith, (room (goal.at.loop-record-preserved c).At-loop-record).0))),
    )

pub write_file_line-end-requires : goal.write_file_line-end-requires
write_file_line-end-requires c = omega (arith, (room (goal.at.write_file_line-end-requires c).At-loop-record).1)

pub overflow_cast-realm : goal.overflow_cast-realm
overflow_cast-realm c = omega (arith, c.loop-record.invariant.5.together.rows_hold.room)

pub overflow_cast-realm-2 : goal.overflow_cast-realm-2
overflow_cast-realm-2 c = omega (arith, c.loop-record.invariant.5.together.entries_most)

-- no record was read
no_record : (c : Joined-at-file) (q : Record) → record_at c.args.file.now c.loop-record.at ≡ Ok (Some q) → ⊥
no_record c q e =
    elim c.match-read_record.branch [
      | in_default w ↦ (let none : w.in_default.field-0 ≡ None = search rules in let read = sym (ap numbered w.in_default.is) in let told = c.read_record.ensures in let z : ◌≡◌ {A = ℕ} 0 1 = cc in omega arith)
      | in_default-2 w ↦ (let read = sym (ap numbered w.in_default.is) in let told = c.read_record.ensures in let z : ◌≡◌ {A = ℕ} 0 1 = cc in omega arith)
    ]

-- before the last line, whichever way the reading ended
ready : (c : Joined-at-file) → let l = c.loop-record in let w = c.write_header_line-end in let a = c.args in
    BeforeLast w.new.out w.result (record_lines a.h a.mark a.file.now) c.if-at-file.out (tables l.realm l.terms l.runs l.wire l.cache) c.if-at-file.end
ready c =
    let l = c.loop-record in
    let most = c.requires.0.most in
    elim c.if-at-file.branch [
      | then-at-file w ↦
          ready_as w.out-is w.end-is
          (ends_broken _ _ _ _ _ _ _ _ _ l.invariant.5 most w.if-at-file.true (no_record c) _ _ (wrote_as (ap (file_line c.loop-record.number) w.from.ensures) w.write_file_line-end.ensures.wrote)
          (w.write_file_line-end.ensures.upper_bound (omega (arith, (room-joined-at-file c).0))))
      | else-at-file w ↦ ready_as w.out-is w.end-is (ends_whole _ _ _ _ _ _ _ _ _ l.invariant.5 most w.if-at-file.false)
    ]

room_left : (c : Joined-at-file) → length c.if-at-file.out ≡ length c.args.out.now
room_left c = c.if-at-file.auto.out ∙ c.loop-record.auto.out ∙ c.write_header_line-end.auto.out

pub write_end_line-requires : goal.write_end_line-requires
write_end_line-requires c =
    omega (arith, (ready (goal.at.write_end_line-requires c).Joined-at-file).short, room_left (goal.at.write_end_line-requires c).Joined-at-file, c.requires.1)

pub shape_of-out : goal.shape_of-out
shape_of-out c = c.write_end_line.auto.out ∙ room_left (goal.at.shape_of-out c).Joined-at-file

pub returns : goal.returns
unfolding tables_line
returns c =
    let w = c.write_end_line in
    let l = c.loop-record in
    let h = c.write_header_line-end in
    finishes c.args.out.now h.new.out c.if-at-file.out w.new.out c.args.file.now c.args.h c.args.mark h.result
    (tables l.realm l.terms l.runs l.wire l.cache) c.if-at-file.end w.result h.ensures (ready (goal.at.returns c).Joined-at-file)
    (wrote_as (ap (λ (k : ℕ). end_line l.realm.runs k l.realm.entries l.realm.clock) c.members.ensures) w.ensures)
