-- `forms::open_ticket` meets its contract: one way out for each layer of the chain, and one through. Assumes nothing.
use Rattle.layers.specs.Layers.{◌▸◌}
use Rattle.forms.specs.Delivery.{ticket_in}
use Rattle.forms.proofs.open_ticket.Goals as goal

pub returns-in_err-b : goal.returns-in_err-b
unfolding ticket_in ◌▸◌
returns-in_err-b c = rw (c.from_residual.ensures, c.in_err-b.ensures)

pub returns-in_err-k : goal.returns-in_err-k
unfolding ticket_in ◌▸◌
returns-in_err-k c = rw (c.from_residual-in_err-k.ensures, c.in_ok-b.ensures.0, c.in_err-k.ensures)

pub returns-in_err-a : goal.returns-in_err-a
unfolding ticket_in ◌▸◌
returns-in_err-a c = rw (c.from_residual-in_err-a.ensures, c.in_ok-b.ensures.0, c.in_ok-k.ensures.0, c.in_err-a.ensures)

pub returns-in_err-ts : goal.returns-in_err-ts
unfolding ticket_in ◌▸◌
returns-in_err-ts c = rw (c.from_residual-in_err-ts.ensures, c.in_ok-b.ensures.0, c.in_ok-k.ensures.0, c.in_ok-a.ensures.0, ← c.in_err-ts.ensures)

pub returns : goal.returns
unfolding ticket_in ◌▸◌
returns c = rw (c.in_ok-b.ensures.0, c.in_ok-k.ensures.0, c.in_ok-a.ensures.0, ← c.in_ok-ts.ensures)
