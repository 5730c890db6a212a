-- `synthesis::all::compose_all` meets its contract. The invariant: all that can be derived of the first t terms is found.
-- Assumes nothing.
use mathlib.Core.Path.{◌≡◌, subst}
use Prim.Native.Nat.{ℕ}
use native.Mathlib.Omega.{arith}
use Rattle.synthesis.specs.All.{FoundTo}
use Rattle.synthesis.proofs.AllLaws.{found_start, found_kept, found_next}
use Rattle.synthesis.proofs.all.compose_all.Goals as goal

pub loop-t-init : goal.loop-t-init
loop-t-init c = (omega arith, found_start c.requires.1)

pub compose-requires : goal.compose-requires
compose-requires c =
    (c.requires.0, found_kept c.loop-t.invariant.1, c.loop-t-test.true)

pub loop-t-preserved : goal.loop-t-preserved
loop-t-preserved c =
    let here = c.loop-t in
    (omega (arith, c.loop-t-test.true), found_next here.t here.invariant.1 c.compose.ensures)

pub returns : goal.returns
returns c =
    let here = c.loop-t in
    let a = c.args in
    let last : here.t ≡ a.count = omega (arith, here.invariant.0, c.loop-t-test.false) in
    subst (λ (t : ℕ). FoundTo a.who.n a.who.flags a.terms.now a.count a.known.now.wire t here.known) last here.invariant.1
