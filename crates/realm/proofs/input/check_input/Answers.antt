-- `realm::input::check_input` meets its contract: by the law for each way out. Assumes nothing.
use Rattle.realm.specs.Input.{unused_zero, in_range}
use Rattle.realm.proofs.InputLaws.{not_zero, not_in_range, passes}
use Rattle.realm.proofs.InputLaws.{no_step_below, no_step_above}
use native.Mathlib.Omega.{arith}
use mathlib.Core.Path.{sym, ap, ◌∙◌}
use Rattle.realm.proofs.input.check_input.Goals as goal

pub returns-then-step-lt1 : goal.returns-then-step-lt1
returns-then-step-lt1 c = let a = c.args in no_step_below a.h a.s c.if-step-lt1.true

pub returns-then-step-gt-LAST_STEP : goal.returns-then-step-gt-LAST_STEP
returns-then-step-gt-LAST_STEP c = let a = c.args in no_step_above a.h a.s c.if-step-gt-LAST_STEP.true

pub returns-then-not-unused_zero : goal.returns-then-not-unused_zero
returns-then-not-unused_zero c = let a = c.args in
    not_zero a.h a.s (omega arith) (omega arith) (ap (λ u. unused_zero u a.s) (sym c.used_by-used.ensures) ∙ sym c.unused_zero.ensures ∙ c.if-not-unused_zero.true)

pub returns-then-not-in_range : goal.returns-then-not-in_range
returns-then-not-in_range c = let a = c.args in
    let u = c.used_by-used.ensures in
    not_in_range a.h a.s (omega arith) (omega arith) (ap (λ u. unused_zero u a.s) (sym u) ∙ sym c.unused_zero.ensures ∙ c.if-not-unused_zero.false)
    (ap (λ u. in_range a.h u a.s) (sym u) ∙ sym c.in_range.ensures ∙ c.if-not-in_range.true)

pub returns : goal.returns
returns c = let a = c.args in
    let u = c.used_by-used.ensures in
    passes a.h a.s (omega arith) (omega arith) (ap (λ u. unused_zero u a.s) (sym u) ∙ sym c.unused_zero.ensures ∙ c.if-not-unused_zero.false)
    (ap (λ u. in_range a.h u a.s) (sym u) ∙ sym c.in_range.ensures ∙ c.if-not-in_range.false)
