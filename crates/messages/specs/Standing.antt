-- What holds after a message was entered: the terms before it keep their numbers and their meaning, the rules are kept,
-- and the message has a number. Entering a message that is there changes nothing.
-- Assumes nothing.
use Rattle.std.specs.Prelude.{◌≡◌, List, ℕ, ◌<◌, length}
use Rattle.terms.specs.Meaning.{message_at}
use Rattle.terms.specs.Message.{Message}

-- ---- definitions

-- number i of the terms xs stands for m
pub record Standing (xs : List ℕ) (m : Message) (i : ℕ) : Type 0 where
  pub below : i < length xs
  pub means : message_at xs i ≡ m
