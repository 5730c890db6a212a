-- `receiving::finish` meets its contract: by the law for each way out. Assumes nothing.
-- ---- what is known on the way
use Rattle.std.specs.Prelude.{Ok, Some}
use mathlib.Core.Path.{◌≡◌, sym, ap, ◌∙◌}
use Rattle.terms.specs.Meaning.{message_at}
use Rattle.forms.specs.Forms.{confirmation_in}
use Rattle.conditions.specs.Conditions.{derivable_at}
use Rattle.decisions.specs.Decision.{need}
use Rattle.receiving.proofs.Laws.{no_confirmation, confirmation_to_another, confirmation_over, confirmation_asked}
use Rattle.receiving.proofs.finish.Goals as goal
use Rattle.receiving.proofs.finish.Goals.{In-Some}

is : (c : In-Some) → let a = c.args in confirmation_in (message_at a.terms.now a.m) ≡ Some c.in-Some.field-0
is c = sym c.open_confirmation.ensures ∙ c.in-Some.is

-- ---- the needs
pub returns-in_default : goal.returns-in_default
returns-in_default c ws =
    let a = c.args in
    no_confirmation a.h a.terms.now ws a.run a.own a.m (sym c.open_confirmation.ensures ∙ c.in_default.is)

pub returns-then-not-confirms : goal.returns-then-not-confirms
returns-then-not-confirms c ws =
    let a = c.args in
    confirmation_to_another a.h a.terms.now ws a.run a.own a.m c.in-Some.field-0 (is (goal.at.returns-then-not-confirms c).In-Some) (sym c.confirms.ensures ∙ c.if-not-confirms.true)

pub returns-then-not-ticket_lives : goal.returns-then-not-ticket_lives
returns-then-not-ticket_lives c ws =
    let a = c.args in
    confirmation_over a.h a.terms.now ws a.run a.own a.m c.in-Some.field-0 (is (goal.at.returns-then-not-ticket_lives c).In-Some) (sym c.confirms.ensures ∙ c.if-not-confirms.false) (sym c.ticket_lives.ensures ∙ c.if-not-ticket_lives.true)

pub returns : goal.returns
returns c ws =
    let a = c.args in
    ap (need (derivable_at a.h a.terms.now ws a.m) 15) (ap Ok c.finished.ensures)
    ∙ confirmation_asked a.h a.terms.now ws a.run a.own a.m c.in-Some.field-0 (is (goal.at.returns c).In-Some) (sym c.confirms.ensures ∙ c.if-not-confirms.false) (sym c.ticket_lives.ensures ∙ c.if-not-ticket_lives.false)
