-- `messages::lent::add_message` meets its contract, by the law for each way out. Assumes nothing.
-- ---- what is known on the way
use mathlib.Core.Bool.{true}
use mathlib.Core.Path.{◌≡◌, refl, sym, ◌∙◌}
use Prim.Native.Nat.{◌<◌}
use native.Mathlib.Omega.{arith}
use Rattle.drafts.specs.Draft.{draft_fits}
use Rattle.terms.specs.Valid.{holds}
use Rattle.messages.proofs.LentLaws.{start_ready, bad_tables, bad_root, bad_draft, too_many, all_fit}
use Rattle.messages.proofs.Planning.{few}
use Rattle.messages.proofs.lent.add_message.Goals as goal
use Rattle.messages.proofs.lent.add_message.Goals.{Else-not-draft_fits, Else-not-holds_together, Else-root-ge-NODES}

held : (c : Else-not-holds_together) → let a = c.args in holds a.n a.terms.now a.count ≡ true
held c = sym c.holds_together.ensures ∙ c.if-not-holds_together.false

inside : (c : Else-root-ge-NODES) → c.args.root < 16
inside c = omega arith

fitting : (c : Else-not-draft_fits) → let a = c.args in draft_fits a.n a.count a.draft ≡ true
fitting c = sym c.draft_fits.ensures ∙ c.if-not-draft_fits.false

-- ---- the needs
pub returns-then-not-holds_together : goal.returns-then-not-holds_together
returns-then-not-holds_together c = let a = c.args in (bad_tables a.n a.terms.now a.count a.draft a.root (sym c.holds_together.ensures ∙ c.if-not-holds_together.true))

pub returns-then-root-ge-NODES : goal.returns-then-root-ge-NODES
returns-then-root-ge-NODES c = let a = c.args in (bad_root a.n a.terms.now a.count a.draft a.root (held (goal.at.returns-then-root-ge-NODES c).Else-not-holds_together) (omega arith))

pub returns-then-not-draft_fits : goal.returns-then-not-draft_fits
returns-then-not-draft_fits c =
    let a = c.args in
    (bad_draft a.n a.terms.now a.count a.draft a.root (held (goal.at.returns-then-not-draft_fits c).Else-not-holds_together) (inside (goal.at.returns-then-not-draft_fits c).Else-root-ge-NODES) (sym c.draft_fits.ensures ∙ c.if-not-draft_fits.true))

pub add_node-number-requires : goal.add_node-number-requires
add_node-number-requires c =
    (rw c.new-plan.ensures (start_ready (omega arith) (held (goal.at.add_node-number-requires c).Else-not-holds_together) (fitting (goal.at.add_node-number-requires c).Else-not-draft_fits)), inside (goal.at.add_node-number-requires c).Else-root-ge-NODES)

pub overflow_add-all : goal.overflow_add-all
overflow_add-all c =
    let r = c.add_node-number.ensures.again in
    record { fits = omega (arith, few r, r.table.room) }

pub returns-then-all-gt-MAX_TERMS : goal.returns-then-all-gt-MAX_TERMS
returns-then-all-gt-MAX_TERMS c =
    let a = c.args in
    (too_many a.n a.terms.now a.count a.draft a.root (held (goal.at.returns-then-all-gt-MAX_TERMS c).Else-not-holds_together) (inside (goal.at.returns-then-all-gt-MAX_TERMS c).Else-root-ge-NODES) (fitting (goal.at.returns-then-all-gt-MAX_TERMS c).Else-not-draft_fits) (rw c.new-plan.ensures at c.add_node-number.ensures) (omega arith))

pub write_plan-requires : goal.write_plan-requires
write_plan-requires c =
    let r = c.add_node-number.ensures.again in
    (r.table.size, omega arith, omega (arith, few r, r.places))

pub returns : goal.returns
returns c =
    let a = c.args in
    rw c.write_plan.ensures (all_fit a.n a.terms.now a.count a.draft a.root (held (goal.at.returns c).Else-not-holds_together) (inside (goal.at.returns c).Else-root-ge-NODES) (fitting (goal.at.returns c).Else-not-draft_fits) (rw c.new-plan.ensures at c.add_node-number.ensures) (omega arith))
