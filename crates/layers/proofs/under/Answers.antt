-- `layers::under` meets its contract: a way out for each part of the layer, by its law. Assumes nothing.
use Rattle.std.proofs.Common.{sym, ◌∙◌}
use Rattle.layers.proofs.Laws.Present.{fields_here, encrypted_operands, under_here}
use Rattle.layers.proofs.Laws.Ways.{not_under}
use Rattle.layers.proofs.under.Goals as goal

pub returns-in_default : goal.returns-in_default
returns-in_default g c = not_under c.requires c.term_at.ensures c.in_default.not-Encrypted g.K.Kind.kind

pub atom-requires : goal.atom-requires
atom-requires g c = (encrypted_operands c.requires (sym c.in-Encrypted.is ∙ c.term_at.ensures)).1

pub returns-in_err-value : goal.returns-in_err-value
returns-in_err-value g c = rw c.from_residual.ensures (under_here c.requires g.K.Kind.kind (sym c.in-Encrypted.is ∙ c.term_at.ensures) c.in_err-value.ensures)

pub returns : goal.returns
returns g c =
    let e = sym c.in-Encrypted.is ∙ c.term_at.ensures in
    (under_here c.requires g.K.Kind.kind e c.in_ok-value.ensures, (encrypted_operands c.requires e).0, (fields_here c.requires e).0)
