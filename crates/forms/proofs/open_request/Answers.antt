-- `forms::open_request` meets its contract: one way out for each layer of the chain, and one through. Assumes nothing.
use Rattle.layers.specs.Layers.{◌▸◌}
use Rattle.forms.specs.Forms.{request_in}
use Rattle.forms.proofs.open_request.Goals as goal

pub returns-in_err-a : goal.returns-in_err-a
unfolding request_in ◌▸◌
returns-in_err-a c = rw (c.from_residual.ensures, c.in_err-a.ensures)

pub returns-in_err-b : goal.returns-in_err-b
unfolding request_in ◌▸◌
returns-in_err-b c = rw (c.from_residual-in_err-b.ensures, c.in_ok-a.ensures.0, c.in_err-b.ensures)

pub returns-in_err-n : goal.returns-in_err-n
unfolding request_in ◌▸◌
returns-in_err-n c = rw (c.from_residual-in_err-n.ensures, c.in_ok-a.ensures.0, c.in_ok-b.ensures.0, ← c.in_err-n.ensures)

pub returns : goal.returns
unfolding request_in ◌▸◌
returns c = rw (c.in_ok-a.ensures.0, c.in_ok-b.ensures.0, ← c.in_ok-n.ensures)
