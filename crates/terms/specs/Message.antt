-- Messages: what a term of the table stands for, without numbers of terms (document 01, "Terms").
-- An encryption carries a `Key`, so that one under anything but a key cannot be written.
-- Assumes nothing.
use Rattle.std.specs.Prelude.{ℕ}

-- "long-term key of party L", "session key L"
pub data Key : Type 0 where
  long_term : ℕ → Key
  session : ℕ → Key
  deriving Discrete as Key-discrete

-- kinds 0 to 6 of the table of kinds, the two kinds of keys under one constructor; "locked" is `encrypted` here
pub data Message : Type 0 where
  principal : ℕ → Message
  time : ℕ → Message
  nonce : ℕ → Message
  key : Key → Message
  pair : Message → Message → Message
  encrypted : Message → Key → Message
  deriving Discrete as Message-discrete
