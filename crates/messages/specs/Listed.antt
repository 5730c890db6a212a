-- The term table as a list of messages: what adding does to it by the rules under "Terms" (document 01), without words and
-- numbers. A term number is a place in the list. `Meanings` shows that a table of words goes the same way.
-- Assumes nothing.
use Rattle.std.specs.Prelude.{ℕ, List, [], ◌∷◌}
use mathlib.Core.HLevel.{Discrete}
use Rattle.std.proofs.Math.Logic.{ite}
use Rattle.std.proofs.Math.Option.{Option}
use Rattle.std.proofs.Math.Decide.{ℕ_discrete}
use Rattle.std.proofs.Math.ListN.{get_elem?}
use Rattle.terms.specs.Message.{Message, principal, time, nonce, key, pair, encrypted, Key-discrete, Message-discrete}

-- ---- definitions

-- the message that term number i stands for
abbrev pub term_at : List Message → ℕ → Option Message
term_at terms i = get_elem? terms i

abbrev pub same : Discrete Message
same = Message-discrete ℕ_discrete (Key-discrete ℕ_discrete)

-- "No term stands twice: adding one that is present gives its number and changes nothing."
abbrev pub insert : Message → List Message → List Message
insert m [] = m ∷ []
insert m (x ∷ terms) = x ∷ ite (same m x) terms (insert m terms)

-- "its terms are added each after its parts, left before right, body before key"
abbrev pub add : Message → List Message → List Message
add (principal p) terms = insert (principal p) terms
add (time t) terms = insert (time t) terms
add (nonce i) terms = insert (nonce i) terms
add (key k) terms = insert (key k) terms
add (pair x y) terms = insert (pair x y) (add y (add x terms))
add (encrypted m k) terms = insert (encrypted m k) (insert (key k) (add m terms))

abbrev pub add_all : List Message → List Message → List Message
add_all [] terms = terms
add_all (m ∷ ms) terms = add_all ms (add m terms)
