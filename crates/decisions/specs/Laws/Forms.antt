-- What is argued for each form singly: the fields of what steps 3 and 4 send are in range, what step 3 sends has the session key as a
-- part, and what step 4 takes the X.
-- Assumes nothing.
use Rattle.std.specs.Prelude.{ℕ}
use mathlib.Core.List.{List, Memᴰ}
use Rattle.terms.specs.Message.{Message, session, key}
use Rattle.messages.specs.Parts.{Part}

-- a message of these has session key k as a part
pub record SendsKey (k : ℕ) (ms : List Message) : Type 0 where
  pub message : Message
  pub part : Part (key (session k)) message
  pub among : Memᴰ message ms
