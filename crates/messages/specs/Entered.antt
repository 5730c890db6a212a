-- A list of terms with a whole message added (document 01, "Terms": "When a step needs a message, its terms are added each
-- after its parts, left before right, body before key"). The list is unbounded here: whether it fits is asked afterwards,
-- so that a message is added entire or not at all.
-- Assumes nothing.
use Rattle.std.specs.Prelude.{List, [], ◌∷◌, ◌++◌, ℕ, length, Option, Some, None}
use Rattle.terms.specs.Message.{Message, principal, time, nonce, key, pair, encrypted}
use Rattle.terms.specs.Number.{word_in}
use Rattle.terms.specs.Table.{find_of}

abbrev pub with_by : List ℕ → ℕ → Option ℕ → List ℕ
with_by xs w (Some i) = xs
with_by xs w None = xs ++ (w ∷ [])

-- "adding one that is present .. changes nothing"
unfoldable pub with_word : List ℕ → ℕ → List ℕ
with_word xs w = with_by xs w (find_of xs (length xs) w)

-- a message whose parts are there
abbrev pub with_term : List ℕ → Message → List ℕ
with_term xs m = with_word xs (word_in xs m)

-- and any message
unfoldable pub entered : List ℕ → Message → List ℕ
entered xs (principal p) = with_term xs (principal p)
entered xs (time t) = with_term xs (time t)
entered xs (nonce i) = with_term xs (nonce i)
entered xs (key k) = with_term xs (key k)
entered xs (pair a b) = with_term (entered (entered xs a) b) (pair a b)
entered xs (encrypted m k) = with_term (with_term (entered xs m) (key k)) (encrypted m k)
