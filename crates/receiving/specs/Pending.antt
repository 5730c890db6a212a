-- A verdict that may hang on whether the intruder can build the step's message.
-- Assumes nothing.
use Rattle.std.specs.Prelude.{Bool, true, false, Result, Ok, Err}
use Rattle.refusals.specs.declared.Refusal.{Refusal}
use Rattle.refusals.specs.Numbers.{number, numbered}
use Rattle.decisions.specs.Decision.{Verdict, need}
use Rattle.receiving.specs.declared.Pending.{Pending}
use Rattle.receiving.specs.declared.Pending.TheVariants.{Settled, Asked}

-- the verdict, where this is known
abbrev pub settled : Result Pending Refusal → (derivable : Bool) → Verdict
settled (Err r) derivable = Err (number r)
settled (Ok (Settled x)) derivable = Ok x
settled (Ok (Asked v)) derivable = need derivable 15 (numbered v)

-- whether it hangs on it
abbrev pub asks : Result Pending Refusal → Bool
asks (Err r) = false
asks (Ok (Settled x)) = false
asks (Ok (Asked v)) = true
