-- `deciding::decide::decide` meets its contract, by the law for each way out. Assumes nothing.
use mathlib.Core.Path.{◌≡◌, sym, ap, ◌∙◌}
use Rattle.refusals.specs.Numbers.{numbered}
use Rattle.refusals.proofs.Numbers.{passed_up}
use native.Mathlib.Omega.{arith}
use Rattle.realm.specs.Tables.{tables}
use Rattle.std.specs.Prelude.{Ok}
use Rattle.decisions.specs.Decision.{decided}
use Rattle.decisions.proofs.Promises.{taken_fits}
use Rattle.deciding.proofs.Laws.Decide.{decision_refused, can_send, decision_full, decision_taken}
use Rattle.deciding.proofs.decide.decide.Goals as goal
use Rattle.deciding.proofs.decide.decide.Goals.{In_ok-effect}

takes : (c : In_ok-effect) → decided (tables c.args.h c.args.terms.now c.args.runs.now c.args.wire.now c.args.cache) c.args.s ≡ Ok c.in_ok-effect.effect
takes c = sym c.settle.ensures.0 ∙ ap numbered c.in_ok-effect.was

pub plan_sends-prepared-requires : goal.plan_sends-prepared-requires
plan_sends-prepared-requires c =
    (can_send (tables c.args.h c.args.terms.now c.args.runs.now c.args.wire.now c.args.cache) c.args.s (takes (goal.at.plan_sends-prepared-requires c).In_ok-effect) c.requires.0, c.requires.2)

pub overflow_add-all : goal.overflow_add-all
overflow_add-all c =
    record { fits = omega (arith, c.plan_sends-prepared.ensures.few, (c).requires.0.terms_hold.room) }

pub returns-in_err-effect-clause-verdict_value : goal.returns-in_err-effect-clause-verdict_value
returns-in_err-effect-clause-verdict_value c =
    let t = tables c.args.h c.args.terms.now c.args.runs.now c.args.wire.now c.args.cache in
    rw (passed_up c.from_residual.result _ c.from_residual.ensures.1) (decision_refused t c.args.s (sym c.settle.ensures.0 ∙ ap numbered c.in_err-effect.was), tt)

pub returns-then-all-gt-MAX_TERMS-clause-verdict_value : goal.returns-then-all-gt-MAX_TERMS-clause-verdict_value
returns-then-all-gt-MAX_TERMS-clause-verdict_value c =
    (decision_full (tables c.args.h c.args.terms.now c.args.runs.now c.args.wire.now c.args.cache) c.args.s (takes (goal.at.returns-then-all-gt-MAX_TERMS-clause-verdict_value c).In_ok-effect) c.plan_sends-prepared.ensures c.if-all-gt-MAX_TERMS.true, tt)

pub returns-clause-verdict_value : goal.returns-clause-verdict_value
returns-clause-verdict_value c =
    let plan = c.plan_sends-prepared.ensures in
    let is = takes (goal.at.returns-clause-verdict_value c).In_ok-effect in (
      decision_taken (tables c.args.h c.args.terms.now c.args.runs.now c.args.wire.now c.args.cache) c.args.s is plan c.if-all-gt-MAX_TERMS.false,
      record { fits = taken_fits (tables c.args.h c.args.terms.now c.args.runs.now c.args.wire.now c.args.cache) c.args.s c.requires.0 is; plan = plan; room = c.if-all-gt-MAX_TERMS.false },
    )
