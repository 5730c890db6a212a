-- `forms::open_reply` meets its contract: one way out for each layer of the chain, and one through. Assumes nothing.
use Rattle.std.proofs.Common.{arith}
use Rattle.layers.specs.Layers.{◌▸◌}
use Rattle.forms.proofs.open_reply.Goals as goal

pub returns-in_err-a : goal.returns-in_err-a
unfolding ◌▸◌
returns-in_err-a c = rw (c.from_residual.ensures, c.in_err-a.ensures)

pub returns-in_err-k : goal.returns-in_err-k
unfolding ◌▸◌
returns-in_err-k c = rw (c.from_residual-in_err-k.ensures, c.in_ok-a.ensures.0, c.in_err-k.ensures)

pub returns-in_err-b : goal.returns-in_err-b
unfolding ◌▸◌
returns-in_err-b c = rw (c.from_residual-in_err-b.ensures, c.in_ok-a.ensures.0, c.in_ok-k.ensures.0, c.in_err-b.ensures)

pub returns-in_err-ts : goal.returns-in_err-ts
unfolding ◌▸◌
returns-in_err-ts c = rw (c.from_residual-in_err-ts.ensures, c.in_ok-a.ensures.0, c.in_ok-k.ensures.0, c.in_ok-b.ensures.0, c.in_err-ts.ensures)

pub returns : goal.returns
unfolding ◌▸◌
returns c = (
  rw (c.in_ok-a.ensures.0, c.in_ok-k.ensures.0, c.in_ok-b.ensures.0, c.in_ok-ts.ensures.0),
  c.in_ok-ts.ensures.1,
  omega (arith, c.in_ok-a.ensures.2, c.in_ok-k.ensures.2, c.in_ok-b.ensures.2, c.in_ok-ts.ensures.2),
)
