-- What the fields of a step that passes say: one that is not used is 0, so the call is the one that the rules have, and one that
-- is used is in range.
-- Assumes nothing.
use Rattle.exchange.specs.declared.call.Call.{Call}
use Rattle.exchange.specs.declared.call.Call.TheVariants as calls
use Rattle.realm.specs.declared.input.Step.{Step}

-- the step as a call
abbrev pub call_of : Step → Call
call_of s = calls.Step s.step s.run s.a s.b s.m s.t
