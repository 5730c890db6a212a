-- `receiving::authenticate` meets its contract: by the law for each way out. Assumes nothing.
-- ---- what is known on the way
use Rattle.std.specs.Prelude.{Ok, Some}
use mathlib.Core.Path.{sym, ap, subst, ◌∙◌}
use native.Mathlib.Omega.{arith}
use Rattle.terms.specs.Meaning.{message_at}
use Rattle.exchange.specs.declared.form.Form.{Form}
use Rattle.exchange.specs.Forms.{form_of}
use Rattle.forms.specs.Grant.{grant_in, Grants}
use Rattle.conditions.specs.Conditions.{derivable_at}
use Rattle.decisions.specs.Decision.{need}
use Rattle.receiving.proofs.Laws.{no_grant, grant_to_another, grant_over, grant_asked, grant_key_most, grant_number}
use Rattle.receiving.proofs.authenticate.Goals as goal
use Rattle.receiving.proofs.authenticate.Goals.{In-Some}

is : (c : In-Some) → let a = c.args in Grants a.terms.now a.m (Some c.in-Some.field-0) (grant_in (form_of a.h.rules) (message_at a.terms.now a.m))
is c =
    let a = c.args in
    subst (λ (f : Form). Grants a.terms.now a.m (Some c.in-Some.field-0) (grant_in f (message_at a.terms.now a.m))) c.form_of-form.ensures c.in-Some.ensures

-- ---- the needs
pub returns-in_default : goal.returns-in_default
returns-in_default c ws =
    let a = c.args in
    no_grant a.h a.terms.now ws a.run a.own a.m
    (ap (λ (f : Form). grant_in f (message_at a.terms.now a.m)) (sym c.form_of-form.ensures)
    ∙ c.in_default.ensures)

pub returns-then-not-replies_to : goal.returns-then-not-replies_to
returns-then-not-replies_to c ws =
    let a = c.args in
    grant_to_another a.h a.terms.now ws a.run a.own a.m _ (is (goal.at.returns-then-not-replies_to c).In-Some).0 (sym c.replies_to.ensures ∙ c.if-not-replies_to.true)

pub returns-then-not-ticket_lives : goal.returns-then-not-ticket_lives
returns-then-not-ticket_lives c ws =
    let a = c.args in
    grant_over a.h a.terms.now ws a.run a.own a.m _ (is (goal.at.returns-then-not-ticket_lives c).In-Some).0 (sym c.replies_to.ensures ∙ c.if-not-replies_to.false) (sym c.ticket_lives.ensures ∙ c.if-not-ticket_lives.true)

pub overflow_cast-k : goal.overflow_cast-k
overflow_cast-k c =
    record {
      fits = omega (
        arith,
        grant_key_most c.args.h c.requires.0 c.requires.1 (form_of c.args.h.rules) c.in-Some.field-0 (is (goal.at.overflow_cast-k c).In-Some),
      );
    }

pub returns : goal.returns
returns c ws =
    let a = c.args in
    let g = is (goal.at.returns c).In-Some in
    ap (need (derivable_at a.h a.terms.now ws a.m) 15) (ap Ok c.authenticated-effect.ensures)
    ∙ grant_asked a.h a.terms.now ws a.run a.own a.m _ g.0 (sym c.replies_to.ensures ∙ c.if-not-replies_to.false) _ c.form_of-form.ensures c.in-Some.field-0.x
    (grant_number a.h c.requires.0 c.requires.1 (form_of a.h.rules) c.in-Some.field-0 g)
    (sym c.ticket_lives.ensures ∙ c.if-not-ticket_lives.false)
