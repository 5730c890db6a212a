-- `analysis::saturate::explore` meets its contract. The invariant: `done` terms of the list have been looked at. Assumes nothing.
use mathlib.Core.Path.{ap, ◌∙◌}
use native.Mathlib.Omega.{arith}
use Rattle.analysis.specs.Gives.{given_of}
use Rattle.analysis.proofs.Explore.{explore_start, explore_most, explore_next, explore_end}
use Rattle.analysis.proofs.saturate.explore.Goals as goal

pub loop-done-init : goal.loop-done-init
loop-done-init c = explore_start c.args.who.flags c.requires.0 c.args.found.now c.requires.2

pub loop-done-smaller : goal.loop-done-smaller
loop-done-smaller c =
    let at = c.loop-done in
    omega (arith, explore_most c.args.who.flags c.requires.0 at.found at.done at.invariant, c.loop-done-test.true, c.count.ensures)

pub loop-done-preserved : goal.loop-done-preserved
loop-done-preserved c =
    let at = c.loop-done in
    explore_next c.args.who.flags c.requires.0 at.found at.done at.invariant (omega (arith, c.loop-done-test.true, c.count.ensures))
    (c.visit.ensures ∙ ap (given_of c.args.who.flags c.args.terms.now c.args.count at.found) c.at-i.ensures)

pub returns : goal.returns
returns c =
    let at = c.loop-done in
    explore_end c.args.who.flags c.requires.0 at.found at.done at.invariant (omega (arith, c.loop-done-test.false, c.count.ensures))
