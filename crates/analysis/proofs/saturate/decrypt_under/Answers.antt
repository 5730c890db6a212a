-- `analysis::saturate::decrypt_under` meets its contract. The invariant: the walk along the chain has come to e. Assumes nothing.
use mathlib.Core.Path.{sym, ap, ◌∙◌, subst}
use Rattle.terms.specs.Meaning.{Under}
use Rattle.words.specs.declared.Term.{Term}
use Rattle.analysis.proofs.Along.{along_low, along_under, along_next, along_end}
use Rattle.analysis.specs.Gives.{decrypt_of}
use Rattle.analysis.proofs.saturate.decrypt_under.Goals as goal

pub decrypt-requires : goal.decrypt-requires
decrypt-requires c =
    let u = along_under c.requires.0 c.args.k c.loop-e.invariant c.loop-e-test.true in
    (along_low c.requires.0 c.args.k c.loop-e.invariant, subst (Under 512) (sym c.from.ensures) u)

pub loop-e-preserved : goal.loop-e-preserved
loop-e-preserved c =
    let at = c.loop-e in
    along_next c.requires.0 c.args.k at.invariant c.loop-e-test.true
    (c.decrypt.ensures ∙ ap (λ (t : Term). decrypt_of at.found at.e t) c.from.ensures)

pub returns : goal.returns
returns c = along_end c.requires.0 c.args.k c.loop-e.invariant c.loop-e-test.false
