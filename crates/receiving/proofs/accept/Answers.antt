-- `receiving::accept` meets its contract: by the law for each way out. Assumes nothing.
-- ---- what is known on the way
use Rattle.std.specs.Prelude.{Ok, Some}
use mathlib.Core.Path.{◌≡◌, refl, sym, ap, ◌∙◌}
use native.Mathlib.Omega.{arith}
use Rattle.refusals.proofs.Numbers.{not_0}
use Rattle.terms.specs.Meaning.{message_at}
use Rattle.forms.specs.Delivery.{delivery_in}
use Rattle.conditions.specs.Conditions.{derivable_at}
use Rattle.decisions.specs.Decision.{need}
use Rattle.receiving.proofs.Laws.{no_delivery, delivery_to_another, delivery_barred, delivery_asked, delivery_key_most}
use Rattle.receiving.proofs.accept.Goals as goal
use Rattle.receiving.proofs.accept.Goals.{In-Some}

is : (c : In-Some) → let a = c.args in delivery_in (message_at a.terms.now a.m) ≡ Some c.in-Some.field-0
is c = sym c.open_delivery.ensures ∙ c.in-Some.is

-- ---- the needs
pub returns-in_default : goal.returns-in_default
returns-in_default c ws =
    let a = c.args in
    no_delivery a.h a.terms.now ws a.cache a.run a.own a.m (sym c.open_delivery.ensures ∙ c.in_default.is)

pub returns-then-not-is_between : goal.returns-then-not-is_between
returns-then-not-is_between c ws =
    let a = c.args in
    delivery_to_another a.h a.terms.now ws a.cache a.run a.own a.m c.in-Some.field-0 (is (goal.at.returns-then-not-is_between c).In-Some) (sym c.is_between.ensures ∙ c.if-not-is_between.true)

pub returns-in-Err : goal.returns-in-Err
returns-in-Err c ws =
    let a = c.args in
    delivery_barred a.h a.terms.now ws a.cache a.run a.own a.m c.in-Some.field-0 (is (goal.at.returns-in-Err c).In-Some) (sym c.is_between.ensures ∙ c.if-not-is_between.false) _ c.in-Err.ensures (not_0 c.in-Err.refusal)

pub overflow_cast-k : goal.overflow_cast-k
overflow_cast-k c =
    record { fits = omega (arith, delivery_key_most c.args.h c.requires.0 c.requires.1 c.in-Some.field-0 (is (goal.at.overflow_cast-k c).In-Some)) }

pub returns : goal.returns
returns c ws =
    let a = c.args in
    ap (need (derivable_at a.h a.terms.now ws a.m) 15) (ap Ok c.accepted-effect.ensures)
    ∙ delivery_asked a.h a.terms.now ws a.cache a.run a.own a.m c.in-Some.field-0 (is (goal.at.returns c).In-Some) (sym c.is_between.ensures ∙ c.if-not-is_between.false) _ c.in_default-admit.ensures refl
