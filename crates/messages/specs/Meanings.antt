-- The messages of a list of terms, and that entering a message into the words is adding it to the messages.
-- Assumes nothing.
use Prim.Native.Nat.{ℕ, zero, suc}
use Rattle.std.specs.Prelude.{List, [], ◌∷◌, ◌++◌}
use Rattle.terms.specs.Meaning.{message_at}
use Rattle.terms.specs.Message.{Message}

-- the messages of the first `count` terms
unfoldable pub meanings : List ℕ → (count : ℕ) → List Message
meanings ts zero = []
meanings ts (suc k) = meanings ts k ++ (message_at ts k ∷ [])
