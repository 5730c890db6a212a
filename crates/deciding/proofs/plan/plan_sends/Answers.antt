-- `deciding::plan::plan_sends` meets its contract, by the law for each way out. Assumes nothing.
use mathlib.Core.Path.{◌≡◌, sym, ◌∙◌}
use Rattle.std.specs.Prelude.{Some}
use Rattle.deciding.specs.Layout.{roots_of}
use Rattle.deciding.proofs.Laws.Plan.{none_planned, draft_plannable, draft_planned}
use Rattle.deciding.proofs.plan.plan_sends.Goals as goal
use Rattle.deciding.proofs.plan.plan_sends.Goals.{In-Some}

-- where there are messages
roots : (c : In-Some) → roots_of c.args.sends ≡ Some c.in-Some.roots
roots c = sym c.roots_of.ensures ∙ c.in-Some.is

pub plan_messages-requires : goal.plan_messages-requires
plan_messages-requires c =
    (draft_plannable c.requires.0 (roots (goal.at.plan_messages-requires c).In-Some) c.draft_of-draft.ensures, c.requires.1)

pub returns-in-Some : goal.returns-in-Some
returns-in-Some c =
    draft_planned c.requires.0 (roots (goal.at.returns-in-Some c).In-Some) c.draft_of-draft.ensures c.plan_messages.ensures

pub returns-in-None : goal.returns-in-None
returns-in-None c = none_planned c.requires.0 (sym c.roots_of.ensures ∙ c.in-None.is) c.requires.1
