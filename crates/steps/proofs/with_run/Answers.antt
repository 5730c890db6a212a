-- `steps::with_run` meets its contract: each step by its call's contract and its law. Assumes nothing.
-- ---- what is known on the way
use mathlib.Core.Path.{refl, sym, ap, ◌∙◌}
use Rattle.std.specs.Prelude.{Ok}
use native.Mathlib.Omega.{arith}
use Rattle.realm.specs.Input.{uses_table}
use Rattle.realm.specs.Tables.{tables}
use Rattle.terms.proofs.Choice.{no_true}
use Rattle.steps.proofs.Laws.{named_run_below, message_below, run_barred, step_4, step_5, step_6, step_9, is_9}
use Rattle.steps.proofs.with_run.Goals as goal

-- ---- the needs
pub run_at-own-requires : goal.run_at-own-requires
run_at-own-requires c =
    let p = c.requires in
    (omega (arith, named_run_below p.1, p.0.1.rows_hold.room), p.0.1.rows_hold.size)

pub returns-then-not-fits : goal.returns-then-not-fits
returns-then-not-fits c =
    record {
      present = λ q. no_true q;
      is = λ ws.
          run_barred (tables c.args.h c.args.terms.now c.args.runs.now ws c.args.cache) c.args.s c.run_at-own.result c.run_at-own.ensures (sym c.fits.ensures ∙ c.if-not-fits.true) c.requires.1.names;
    }

pub authenticate-requires : goal.authenticate-requires
unfolding uses_table
authenticate-requires c =
    (c.requires.0.1.terms_hold, message_below c.args.h c.args.s c.requires.1.passes 4 c.in-4.is refl)

pub accept-requires : goal.accept-requires
unfolding uses_table
accept-requires c =
    (c.requires.0.1.terms_hold, message_below c.args.h c.args.s c.requires.1.passes 5 c.in-5.is refl, c.requires.0.1.entries_most)

pub finish-requires : goal.finish-requires
unfolding uses_table
finish-requires c =
    (c.requires.0.1.terms_hold, message_below c.args.h c.args.s c.requires.1.passes 6 c.in-6.is refl)

pub returns-in-4 : goal.returns-in-4
unfolding uses_table
returns-in-4 c =
    record {
      present = λ _. message_below c.args.h c.args.s c.requires.1.passes 4 c.in-4.is refl;
      is = λ ws. c.authenticate.ensures ws ∙ step_4 (tables c.args.h c.args.terms.now c.args.runs.now ws c.args.cache) c.args.s c.run_at-own.result c.run_at-own.ensures (sym c.fits.ensures ∙ c.if-not-fits.false) c.in-4.is;
    }

pub returns-in-5 : goal.returns-in-5
unfolding uses_table
returns-in-5 c =
    record {
      present = λ _. message_below c.args.h c.args.s c.requires.1.passes 5 c.in-5.is refl;
      is = λ ws. c.accept.ensures ws ∙ step_5 (tables c.args.h c.args.terms.now c.args.runs.now ws c.args.cache) c.args.s c.run_at-own.result c.run_at-own.ensures (sym c.fits.ensures ∙ c.if-not-fits.false) c.in-5.is;
    }

pub returns-in-6 : goal.returns-in-6
unfolding uses_table
returns-in-6 c =
    record {
      present = λ _. message_below c.args.h c.args.s c.requires.1.passes 6 c.in-6.is refl;
      is = λ ws. c.finish.ensures ws ∙ step_6 (tables c.args.h c.args.terms.now c.args.runs.now ws c.args.cache) c.args.s c.run_at-own.result c.run_at-own.ensures (sym c.fits.ensures ∙ c.if-not-fits.false) c.in-6.is;
    }

pub returns-in_default : goal.returns-in_default
returns-in_default c =
    let no = c.in_default.in_default-own.rest in
    record {
      present = λ q. no_true q;
      is = λ ws.
          ap Ok c.rest-effect.ensures
          ∙ step_9 (tables c.args.h c.args.terms.now c.args.runs.now ws c.args.cache) c.args.s c.run_at-own.result c.run_at-own.ensures (sym c.fits.ensures ∙ c.if-not-fits.false) (is_9 c.args.s.step c.requires.1.names no.0.0.1 no.0.1 no.1);
    }
