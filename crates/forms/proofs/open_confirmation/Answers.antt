-- `forms::open_confirmation` meets its contract: one way out for each layer of the chain, and one through. Assumes nothing.
use Rattle.layers.specs.Layers.{◌▸◌}
use Rattle.forms.specs.Forms.{confirmation_in}
use Rattle.forms.proofs.open_confirmation.Goals as goal

pub returns-in_err-k : goal.returns-in_err-k
unfolding confirmation_in ◌▸◌
returns-in_err-k c = rw (c.from_residual.ensures, c.in_err-k.ensures)

pub returns-in_err-ta : goal.returns-in_err-ta
unfolding confirmation_in ◌▸◌
returns-in_err-ta c = rw (c.from_residual-in_err-ta.ensures, c.in_ok-k.ensures.0, ← c.in_err-ta.ensures)

pub returns : goal.returns
unfolding confirmation_in ◌▸◌
returns c = rw (c.in_ok-k.ensures.0, ← c.in_ok-ta.ensures)
