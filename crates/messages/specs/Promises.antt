-- What the crate promises beside the contracts of its functions: what holds of the table after a message was added. The
-- contract of `add_message` gives the answer and every place of the table; these laws say what they mean. Reading order of
-- the definitions: Entered (on words), Listed and Meanings (on messages), Lent. What a draft stands for is defined in the
-- crate `drafts`.
-- Assumes nothing.
use Rattle.std.specs.Prelude.{◌≡◌, List, ℕ, ◌<◌, ◌≤◌, length, drop}
use Rattle.terms.specs.Meaning.{message_at}
use Rattle.terms.specs.Message.{Message}
use Rattle.terms.specs.Number.{terms_of}
use Rattle.terms.specs.Rules.{Agree}
use Rattle.terms.specs.Valid.{Valid}
use Rattle.messages.specs.Entered.{entered}

-- a message m was added to a table ts of `count` terms; its number is i, and ts' has `count'` terms
pub record MessageAdded (n : ℕ) (ts : List ℕ) (count : ℕ) (m : Message) (i count' : ℕ) (ts' : List ℕ) : Type 0 where
  -- the table keeps the rules
  pub valid : Valid n ts' count'
  -- the message has the number
  pub below : i < count'
  pub means : message_at ts' i ≡ m
  -- older terms keep their numbers and their meaning
  pub more : count ≤ count'
  pub older : Agree ts ts' count
  pub meaning : (j : ℕ) → j < count → message_at ts j ≡ message_at ts' j
  -- the terms added are those that entering the message adds
  pub added : count' ≡ length (entered (terms_of ts count) m)
  -- places past the terms keep their values
  pub past : drop count' ts' ≡ drop count' ts
