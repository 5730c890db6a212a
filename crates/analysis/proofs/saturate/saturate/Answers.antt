-- `analysis::saturate::saturate` meets its contract: the chains, the wire, then all that has been found. Assumes nothing.
use mathlib.Core.Path.{sym, ap, subst}
use mathlib.Core.List.{List}
use Prim.Native.Nat.{ℕ}
use native.Mathlib.Nat.{le_refl}
use lib.ListN.{replicate, length-replicate}
use Rattle.marks.proofs.Empty.{zeros}
use Rattle.worklist.specs.Chains.{Chained}
use Rattle.worklist.proofs.ChainsLaws.{chained}
use Rattle.worklist.specs.Found.{Found, Listed}
use Rattle.deduction.specs.Known.{Filled}
use Rattle.analysis.proofs.Explore.{start_listed, saturated}
use Rattle.analysis.proofs.saturate.saturate.Goals as goal

pub explore-requires : goal.explore-requires
explore-requires c =
    let v = c.requires.0 in (
      v,
      subst (Chained c.args.terms.now c.args.count c.args.count) (sym c.chain.ensures)
          (chained v (replicate 512 0) (length-replicate {A = ℕ} 512 0) (zeros 512) c.args.count (le_refl c.args.count)),
      subst (Listed c.args.count) (sym c.on_wire-found.ensures) (start_listed c.args.who.flags v c.args.wire.now),
    )

pub returns : goal.returns
returns c =
    let a = c.args in
    let filled = subst (λ (x : List ℕ). Filled a.who.n a.who.flags a.terms.now a.count x c.explore.new.found.known) (ap (λ (f : Found). f.known) c.on_wire-found.ensures) c.explore.ensures.0 in
    rw c.known.ensures (saturated a.who.flags c.requires.0 a.wire.now filled, c.explore.ensures.1)
