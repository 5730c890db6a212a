-- `raw_records::refusal::check_step` meets its contract. Assumes nothing.
use native.Mathlib.Omega.{arith}
use mathlib.Core.Path.{refl}
use Rattle.refusals.proofs.Numbers.{not_0, passed_up}
use Rattle.raw_records.proofs.Capped.{step_told_lem}
use Rattle.raw_records.proofs.Refusals.{first_some}
use Rattle.raw_records.proofs.refusal.check_step.Goals as goal

pub returns-in_err-check_input : goal.returns-in_err-check_input
returns-in_err-check_input c =
    let a = c.args in
    rw (passed_up c.from_residual.result c.in_err-check_input.field-0.0 c.from_residual.ensures.1)
    (step_told_lem a.n a.step a.run a.a a.b a.m a.t (omega (arith, c.ranges.n.fits))
    c.cap8.ensures c.cap8-2.ensures c.cap8-3.ensures c.cap8-4.ensures
    c.cap16.ensures c.in_err-check_input.ensures refl (first_some _ _ (not_0 c.in_err-check_input.field-0.0)))

pub returns : goal.returns
returns c =
    let a = c.args in
    step_told_lem a.n a.step a.run a.a a.b a.m a.t (omega (arith, c.ranges.n.fits))
    c.cap8.ensures c.cap8-2.ensures c.cap8-3.ensures c.cap8-4.ensures
    c.cap16.ensures c.in_ok-check_input.ensures refl c.check_width.ensures
