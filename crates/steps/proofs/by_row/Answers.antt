-- `steps::by_row` meets its contract: each step by its call's contract and its law. Assumes nothing.
-- ---- what is known on the way
use mathlib.Core.Path.{refl, sym, ap, ◌∙◌}
use Rattle.std.specs.Prelude.{Ok}
use Rattle.conditions.specs.Conditions.{derivable_at}
use Rattle.decisions.specs.Decision.{need}
use Rattle.realm.specs.Input.{uses_table}
use Rattle.realm.proofs.InputLaws.{passed}
use Rattle.realm.specs.Tables.{tables}
use Rattle.terms.proofs.Choice.{no_true}
use Rattle.refusals.proofs.Numbers.{not_0, passed_up}
use Rattle.steps.proofs.Laws.{settles, refuses, fields_barred, fields_pass, message_below, names_run, step_1, step_2, step_3, step_7, step_8, step_10}
use Rattle.steps.proofs.by_row.Goals as goal

-- ---- the needs
pub returns-in_err-check_input : goal.returns-in_err-check_input
returns-in_err-check_input c =
    refuses c.from_residual.result c.in_err-check_input.field-0.0 (passed_up _ _ c.from_residual.ensures.1)
    (λ ws. fields_barred (tables c.args.h c.args.terms.now c.args.runs.now ws c.args.cache) c.args.s _ c.in_err-check_input.ensures (not_0 c.in_err-check_input.field-0.0))

pub issue-requires : goal.issue-requires
unfolding uses_table
issue-requires c =
    (c.requires.1.terms_hold, message_below c.args.h c.args.s (sym c.in_ok-check_input.ensures) 3 c.in-3.is refl)

pub with_run-requires : goal.with_run-requires
with_run-requires c =
    let p = passed c.args.h c.args.s (sym c.in_ok-check_input.ensures) in
    let no = c.in_default.in_default-own.rest in
    (c.requires, record { passes = sym c.in_ok-check_input.ensures; names = names_run c.args.s.step p.low p.high no.0.0.0.0.0.1 no.0.0.0.0.1 no.0.0.0.1 no.0.0.1 no.0.1 no.1 })

pub returns-in-1 : goal.returns-in-1
returns-in-1 c =
    settles c.begin.result c.map.result c.map.ensures.cases
    (λ ws. c.begin.ensures ∙ step_1 (tables c.args.h c.args.terms.now c.args.runs.now ws c.args.cache) c.args.s c.in-1.is ∙ fields_pass (tables c.args.h c.args.terms.now c.args.runs.now ws c.args.cache) c.args.s (sym c.in_ok-check_input.ensures))

pub returns-in-2 : goal.returns-in-2
returns-in-2 c =
    settles c.begin-in-2.result c.map-in-2.result c.map-in-2.ensures.cases
    (λ ws. c.begin-in-2.ensures ∙ step_2 (tables c.args.h c.args.terms.now c.args.runs.now ws c.args.cache) c.args.s c.in-2.is ∙ fields_pass (tables c.args.h c.args.terms.now c.args.runs.now ws c.args.cache) c.args.s (sym c.in_ok-check_input.ensures))

pub returns-in-3 : goal.returns-in-3
unfolding uses_table
returns-in-3 c =
    record {
      present = λ _. message_below c.args.h c.args.s (sym c.in_ok-check_input.ensures) 3 c.in-3.is refl;
      is = λ ws. c.issue.ensures ws ∙ step_3 (tables c.args.h c.args.terms.now c.args.runs.now ws c.args.cache) c.args.s c.in-3.is ∙ fields_pass (tables c.args.h c.args.terms.now c.args.runs.now ws c.args.cache) c.args.s (sym c.in_ok-check_input.ensures);
    }

pub returns-in-7 : goal.returns-in-7
returns-in-7 c =
    settles c.tick.result c.map-in-7.result c.map-in-7.ensures.cases
    (λ ws. c.tick.ensures ∙ step_7 (tables c.args.h c.args.terms.now c.args.runs.now ws c.args.cache) c.args.s c.in-7.is ∙ fields_pass (tables c.args.h c.args.terms.now c.args.runs.now ws c.args.cache) c.args.s (sym c.in_ok-check_input.ensures))

pub returns-in-8 : goal.returns-in-8
returns-in-8 c =
    record {
      present = λ q. no_true q;
      is = λ ws. ap Ok c.rest-effect.ensures ∙ step_8 (tables c.args.h c.args.terms.now c.args.runs.now ws c.args.cache) c.args.s c.in-8.is ∙ fields_pass (tables c.args.h c.args.terms.now c.args.runs.now ws c.args.cache) c.args.s (sym c.in_ok-check_input.ensures);
    }

pub returns-in-10 : goal.returns-in-10
unfolding uses_table
returns-in-10 c =
    let a = c.args in
    record {
      present = λ _. message_below a.h a.s (sym c.in_ok-check_input.ensures) 10 c.in-10.is refl;
      is = λ ws.
          ap (need (derivable_at a.h a.terms.now ws a.s.m) 15) (ap Ok c.rest-effect-in-10.ensures)
          ∙ step_10 (tables c.args.h c.args.terms.now c.args.runs.now ws c.args.cache) a.s c.in-10.is ∙ fields_pass (tables c.args.h c.args.terms.now c.args.runs.now ws c.args.cache) a.s (sym c.in_ok-check_input.ensures);
    }

pub returns-in_default : goal.returns-in_default
returns-in_default c =
    record {
      present = c.with_run.ensures.present;
      is = λ ws. c.with_run.ensures.is ws ∙ fields_pass (tables c.args.h c.args.terms.now c.args.runs.now ws c.args.cache) c.args.s (sym c.in_ok-check_input.ensures);
    }
