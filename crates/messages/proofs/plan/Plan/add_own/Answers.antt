-- `messages::plan::Plan::add_own` meets its contract: the number is small. Assumes nothing.
use native.Mathlib.Omega.{arith}
use Rattle.messages.proofs.Planning.{number_small}
use Rattle.messages.proofs.plan.Plan.add_own.Goals as goal

pub overflow_add-self : goal.overflow_add-self
overflow_add-self c =
    record { fits = omega (arith, number_small c.add_word-own.ensures.0 c.requires.1 c.requires.2) }
