-- `analysis::saturate::visit` meets its contract: a key by its chain, another term by its parts. Assumes nothing.
use mathlib.Core.Path.{sym, subst}
use native.Mathlib.Omega.{arith}
use Rattle.terms.specs.Meaning.{Under}
use Rattle.terms.proofs.Meaning.{under_at}
use Rattle.analysis.proofs.saturate.visit.Goals as goal

pub parts-requires : goal.parts-requires
parts-requires c =
    let v = c.requires.0.table.valid in
    (v.size, subst (Under 512) (sym c.from-t.ensures) (under_at v.terms c.args.i 512 c.requires.1 (omega (arith, v.room, c.requires.1))))
