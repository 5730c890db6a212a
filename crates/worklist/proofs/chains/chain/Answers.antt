-- `worklist::chains::chain` meets its contract. The invariant: the chains of the terms below i stand. Assumes nothing.
use mathlib.Core.Path.{sym, ap, ◌∙◌, subst}
use Prim.Native.Nat.{◌<◌}
use native.Mathlib.Omega.{arith}
use Rattle.terms.specs.Meaning.{Under}
use Rattle.terms.proofs.Meaning.{under_at}
use Rattle.terms.specs.Rules.{term_at}
use Rattle.words.specs.declared.Term.{Term}
use Rattle.worklist.specs.Chains.{link_of}
use Rattle.worklist.proofs.ChainsLaws.{chains_start, chains_next}
use Rattle.worklist.proofs.chains.chain.Goals as goal

pub loop-i-init : goal.loop-i-init
loop-i-init c = chains_start c.args.terms.now c.args.chains.now

pub link-requires : goal.link-requires
link-requires c =
    let v = c.requires.valid in
    let low : c.loop-i.i < 512 = omega (arith, v.room) in
    (subst (Under 512) (sym c.from.ensures) (under_at v.terms c.loop-i.i 512 (omega arith) (omega arith)), low)

pub loop-i-preserved : goal.loop-i-preserved
loop-i-preserved c =
    let at = c.loop-i in
    c.link.ensures
    ∙ ap (λ (x : Term). link_of x at.i at.chains) c.from.ensures
    ∙ ap (link_of (term_at c.args.terms.now at.i) at.i) at.invariant
    ∙ chains_next c.args.terms.now c.args.chains.now at.i
