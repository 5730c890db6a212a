-- A part of a message stands in the table where the message does, and the number of a term's message is the term's. So a part that is
-- passed on has a number.
-- Assumes nothing.
use Rattle.terms.specs.Message.{Key, Message, pair, encrypted}

-- x is m, or a part of it that is no key of an encryption
pub data Part (x : Message) : Message → Type 0 where
  itself : Part x x
  in_left : {l r : Message} → Part x l → Part x (pair l r)
  in_right : {l r : Message} → Part x r → Part x (pair l r)
  in_body : {m : Message} {k : Key} → Part x m → Part x (encrypted m k)
