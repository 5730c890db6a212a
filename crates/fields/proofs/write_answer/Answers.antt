-- `fields::write_answer` meets its contract, by the four kinds of answer. Assumes nothing.
use Prim.Native.Nat.{◌≤◌}
use mathlib.Core.Path.{sym, ap, subst}
use native.Mathlib.Omega.{arith}
use lib.ListN.{length}
use Rattle.std.specs.Prelude.{◌≡◌, Ok, Err}
use Rattle.std.proofs.Common.{◌∙◌, rules}
use Rattle.refusals.specs.Numbers.{number, numbered}
use Rattle.exchange.specs.declared.call.Accepted.TheVariants.{Old, New, Taken}
use Rattle.exchange.specs.Calls.{Answer}
use Rattle.fields.specs.Lengths.{Narrow}
use Rattle.fields.proofs.Lengths.{added_short, answer_short}
use Rattle.fields.specs.Fields.{answer_text}
use Rattle.fields.proofs.Placed.{joined, wrote_as}
use Rattle.fields.proofs.write_answer.Goals as goal

pub returns-in-Ok-Old : goal.returns-in-Ok-Old
unfolding answer_text
returns-in-Ok-Old c =
    let e : numbered c.args.answer ≡ Ok (Old c.in-Ok-Old.term) = rw (c.in-Ok-Old.is, rw c.in-Ok-Old.is at c.in-Ok-Old.field-0-is) in
    let w = wrote_as (sym (ap answer_text e)) c.write_term.ensures in
    (w, omega (arith, w.offset, answer_short (numbered c.args.answer) (subst Narrow (sym e) (search rules))))

pub returns-in-Ok-New : goal.returns-in-Ok-New
unfolding answer_text
returns-in-Ok-New c =
    let e : numbered c.args.answer ≡ Ok (New c.in-Ok-New.term) = rw (c.in-Ok-New.is, rw c.in-Ok-New.is at c.in-Ok-New.field-0-is) in
    let w = wrote_as (sym (ap answer_text e)) c.write_term-in-Ok-New.ensures in
    (w, omega (arith, w.offset, answer_short (numbered c.args.answer) (subst Narrow (sym e) (search rules))))

pub returns-in-Ok-Taken : goal.returns-in-Ok-Taken
unfolding answer_text
returns-in-Ok-Taken c =
    let e : numbered c.args.answer ≡ Ok (Taken c.in-Ok-Taken.names c.in-Ok-Taken.added) = rw (c.in-Ok-Taken.is, rw c.in-Ok-Taken.is at c.in-Ok-Taken.field-0-is) in
    let fits : c.args.at ≤ length c.args.out.now = omega (arith, c.requires) in
    let names = c.write_names-next.ensures in
    let added = c.write_field.ensures.0 in
    (wrote_as (sym (ap answer_text e)) (joined fits names.0 added), omega (arith, names.1, added.offset, added_short c.in-Ok-Taken.added (search rules)))

pub returns-in-Err : goal.returns-in-Err
unfolding answer_text
returns-in-Err c =
    let e : numbered c.args.answer ≡ Err c.from.result = rw (c.in-Err.is, c.from.ensures) in
    let w = wrote_as (sym (ap answer_text e)) c.write_field-in-Err.ensures.0 in
    (w, omega (arith, w.offset, answer_short (numbered c.args.answer) (subst Narrow (sym e) (search rules))))
