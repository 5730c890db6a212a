-- The number of a message in a list of terms. In a list that keeps the rules a message has one number: `number_at` takes
-- a term's message back to the term, so two terms never stand for the same message.
-- Assumes nothing.
use Rattle.std.specs.Prelude.{Option, Some, None, List, ℕ, length, take}
use Rattle.words.specs.declared.Term.TheVariants.{Principal, Time, Nonce, LongTermKey, SessionKey, Pair, Encrypted}
use Rattle.terms.specs.Message.{Key, long_term, session, Message, principal, time, nonce, key, pair, encrypted}
use Rattle.terms.specs.Table.{find_of}
use Rattle.words.specs.Word.{word_of}

-- ---- definitions

abbrev pub place_by : Option ℕ → ℕ
place_by (Some i) = i
place_by None = 0

-- the number of a word among the terms xs
unfoldable pub place : List ℕ → ℕ → ℕ
place xs w = place_by (find_of xs (length xs) w)

abbrev pub key_word : Key → ℕ
key_word (long_term p) = word_of (LongTermKey p)
key_word (session i) = word_of (SessionKey i)

-- the word of a message whose parts are among the terms xs
unfoldable pub word_in : List ℕ → Message → ℕ
word_in xs (principal p) = word_of (Principal p)
word_in xs (time t) = word_of (Time t)
word_in xs (nonce i) = word_of (Nonce i)
word_in xs (key k) = key_word k
word_in xs (pair a b) = word_of (Pair (place xs (word_in xs a)) (place xs (word_in xs b)))
word_in xs (encrypted m k) = word_of (Encrypted (place xs (word_in xs m)) (place xs (key_word k)))

-- the number of a message among the terms xs
abbrev pub number_in : List ℕ → Message → ℕ
number_in xs m = place xs (word_in xs m)

-- ---- the terms of a lent table, as a list

abbrev pub terms_of : List ℕ → ℕ → List ℕ
terms_of ts count = take count ts
