-- `receiving::issue` meets its contract: by the law for each way out. Assumes nothing.
-- ---- what is known on the way
use Rattle.std.specs.Prelude.{Ok, Some}
use mathlib.Core.Path.{◌≡◌, sym, ap, ◌∙◌}
use native.Mathlib.Omega.{arith}
use Rattle.terms.specs.Meaning.{message_at}
use Rattle.forms.specs.Forms.{request_in}
use Rattle.conditions.specs.Conditions.{derivable_at}
use Rattle.decisions.specs.Decision.{need}
use Rattle.receiving.proofs.Laws.{no_room_to_issue, no_request, request_barred, request_asked, request_in_range}
use Rattle.receiving.proofs.issue.Goals as goal
use Rattle.receiving.proofs.issue.Goals.{In-Some}

is : (c : In-Some) → let a = c.args in request_in (message_at a.terms.now a.m) ≡ Some c.in-Some.field-0
is c = sym c.open_request.ensures ∙ c.in-Some.is

-- ---- the needs
pub returns-then-h-ge-MAX_RUNS : goal.returns-then-h-ge-MAX_RUNS
returns-then-h-ge-MAX_RUNS c ws = let a = c.args in no_room_to_issue a.h a.terms.now ws a.m c.if-h-ge-MAX_RUNS.true

pub returns-in_default : goal.returns-in_default
returns-in_default c ws =
    let a = c.args in
    no_request a.h a.terms.now ws a.m c.if-h-ge-MAX_RUNS.false (sym c.open_request.ensures ∙ c.in_default.is)

pub returns-then-not-can_ask : goal.returns-then-not-can_ask
returns-then-not-can_ask c ws =
    let a = c.args in
    request_barred a.h a.terms.now ws a.m c.if-h-ge-MAX_RUNS.false c.in-Some.field-0 (is (goal.at.returns-then-not-can_ask c).In-Some) (sym c.can_ask.ensures ∙ c.if-not-can_ask.true)

pub overflow_cast-initiator : goal.overflow_cast-initiator
overflow_cast-initiator c =
    record { fits = omega (arith, (request_in_range c.args.h c.requires.0 c.requires.1 c.in-Some.field-0 (is (goal.at.overflow_cast-initiator c).In-Some)).0) }

pub overflow_cast-responder : goal.overflow_cast-responder
overflow_cast-responder c =
    record { fits = omega (arith, (request_in_range c.args.h c.requires.0 c.requires.1 c.in-Some.field-0 (is (goal.at.overflow_cast-responder c).In-Some)).1) }

pub returns : goal.returns
returns c ws =
    let a = c.args in
    ap (need (derivable_at a.h a.terms.now ws a.m) 15) (ap Ok c.issued-effect.ensures)
    ∙ request_asked a.h a.terms.now ws a.m c.if-h-ge-MAX_RUNS.false c.in-Some.field-0 (is (goal.at.returns c).In-Some) (sym c.can_ask.ensures ∙ c.if-not-can_ask.false) _ c.form_of-form.ensures
