-- What follows from the definitions of the same name in specs/.
-- Assumes nothing.
use Rattle.std.specs.Prelude.{◌≡◌, true, false}
use Rattle.exchange.specs.declared.call.Call.TheVariants.{Term, Step}
use Rattle.exported.specs.declared.Record.{Record}
use Rattle.exported.specs.Numbers.{call_of}

-- ---- laws

pub term_call_lem : (q : Record) → q.adds ≡ true → Term q.kind q.l q.r ≡ call_of q
unfolding call_of
term_call_lem q e = rw e

pub step_call_lem : (q : Record) → q.adds ≡ false → Step q.step q.run q.a q.b q.m q.t ≡ call_of q
unfolding call_of
step_call_lem q e = rw e
