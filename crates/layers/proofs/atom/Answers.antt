-- `layers::atom` meets its contract: by the law of a term that is present. Assumes nothing.
use Rattle.std.proofs.Common.{◌∙◌, arith}
use Rattle.layers.proofs.Laws.Present.{atom_here}
use Rattle.layers.proofs.atom.Goals as goal

pub returns : goal.returns
returns g c =
    let without_operands = g.met.K.Kind.without_operands in
    c.of.ensures ∙ atom_here c.requires c.term_at.ensures g.K.Kind.kind (omega arith)
