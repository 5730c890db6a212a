-- `raw_records::refusal::check_records` meets its contract. Assumes nothing.
use native.Mathlib.Omega.{arith}
use mathlib.Core.Path.{refl, sym, ap, ◌∙◌}
use Rattle.refusals.proofs.Numbers.{not_0, passed_up}
use Rattle.raw_records.specs.Refusals.{own_refusal}
use Rattle.raw_records.proofs.Passing.{refused_here, refused_later, refused_cut, refused_none}
use Rattle.raw_records.proofs.refusal.check_records.Goals as goal

pub loop-i-init : goal.loop-i-init
loop-i-init c = refl

pub returns-in_err-check_record : goal.returns-in_err-check_record
returns-in_err-check_record c =
    let a = c.args in
    let l = c.loop-i in
    rw (passed_up c.from_residual.result c.in_err-check_record.field-0.0 c.from_residual.ensures.1)
    (refused_here a.n a.words.now l.i (omega (arith, c.loop-i-test.true)) (c.in_err-check_record.ensures ∙ ap (own_refusal a.n) c.raw_at.ensures)
    (not_0 c.in_err-check_record.field-0.0) ∙ l.invariant)

pub loop-i-preserved : goal.loop-i-preserved
loop-i-preserved c =
    let a = c.args in
    let l = c.loop-i in
    sym (refused_later a.n a.words.now l.i (omega (arith, c.loop-i-test.true)) (c.in_ok-check_record.ensures ∙ ap (own_refusal a.n) c.raw_at.ensures) refl) ∙ l.invariant

pub returns-then-words-ne0 : goal.returns-then-words-ne0
returns-then-words-ne0 c =
    let a = c.args in
    let l = c.loop-i in
    let cut = c.if-words-ne0.true in
    sym (refused_cut a.n a.words.now l.i (omega arith) (omega arith)) ∙ l.invariant

pub returns : goal.returns
returns c =
    let a = c.args in
    let l = c.loop-i in
    sym (refused_none a.n a.words.now l.i (omega arith)) ∙ l.invariant
