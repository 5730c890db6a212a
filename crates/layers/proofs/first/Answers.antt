-- `layers::first` meets its contract: a way out for each part of the layer, by its law. Assumes nothing.
use Rattle.std.proofs.Common.{sym, ◌∙◌}
use Rattle.layers.proofs.Laws.Present.{fields_here, pair_operands, first_here}
use Rattle.layers.proofs.Laws.Ways.{not_first}
use Rattle.layers.proofs.first.Goals as goal

pub returns-in_default : goal.returns-in_default
returns-in_default g c = not_first c.requires c.term_at.ensures c.in_default.not-Pair g.K.Kind.kind

pub atom-requires : goal.atom-requires
atom-requires g c = (pair_operands c.requires (sym c.in-Pair.is ∙ c.term_at.ensures)).0

pub returns-in_err-value : goal.returns-in_err-value
returns-in_err-value g c = rw c.from_residual.ensures (first_here c.requires g.K.Kind.kind (sym c.in-Pair.is ∙ c.term_at.ensures) c.in_err-value.ensures)

pub returns : goal.returns
returns g c =
    let e = sym c.in-Pair.is ∙ c.term_at.ensures in
    (first_here c.requires g.K.Kind.kind e c.in_ok-value.ensures, (pair_operands c.requires e).1, (fields_here c.requires e).1)
