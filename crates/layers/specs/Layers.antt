-- A message is taken apart layer by layer, from the outside in. A layer reads one value and leaves a message; `▸` goes on
-- with what is left. A form is then written as the paper writes it, `first PRINCIPAL ▸ first PRINCIPAL ▸ atom NONCE`, and
-- one law for `▸` and one for each kind of layer say which messages have it.
-- Assumes nothing.
use Rattle.std.specs.Prelude.{cond, ℕ, eqb, Option, None, Some, option_and_then, option_map}
use Rattle.terms.specs.Message.{long_term, session, Message, principal, time, nonce, key, pair, encrypted}

-- "A term has a kind and operands L and R": the table of kinds
abbrev pub PRINCIPAL : ℕ
PRINCIPAL = 0

abbrev pub TIME : ℕ
TIME = 1

abbrev pub NONCE : ℕ
NONCE = 2

abbrev pub LONG_TERM_KEY : ℕ
LONG_TERM_KEY = 3

abbrev pub SESSION_KEY : ℕ
SESSION_KEY = 4

abbrev pub PAIR : ℕ
PAIR = 5

abbrev pub ENCRYPTED : ℕ
ENCRYPTED = 6

abbrev pub kind : Message → ℕ
kind (principal p) = PRINCIPAL
kind (time t) = TIME
kind (nonce i) = NONCE
kind (key (long_term p)) = LONG_TERM_KEY
kind (key (session i)) = SESSION_KEY
kind (pair x y) = PAIR
kind (encrypted m k) = ENCRYPTED

-- the number of a message that is no pair and no encryption
abbrev pub number : Message → ℕ
number (principal p) = p
number (time t) = t
number (nonce i) = i
number (key (long_term p)) = p
number (key (session i)) = i
number (pair x y) = 0
number (encrypted m k) = 0

-- the operands of a pair and of an encryption (body, then key)
abbrev pub operands : Message → Message × Message
operands (principal p) = (principal p, principal p)
operands (time t) = (time t, time t)
operands (nonce i) = (nonce i, nonce i)
operands (key k) = (key k, key k)
operands (pair x y) = (x, y)
operands (encrypted m k) = (m, key k)

-- what f reads of a message, if that is of this kind
unfoldable pub of_kind : {A : Type 0} → ℕ → (Message → A) → Message → Option A
of_kind k f m = cond (eqb (kind m) k) (Some (f m)) None

-- the number of a principal, a time, a nonce or a key
abbrev pub atom : ℕ → Message → Option ℕ
atom k = of_kind k number

-- one layer: a pair or an encryption, of whose operands one is read, if it is of kind k, and the other is left
unfoldable pub layer : (outer : ℕ) (value rest : Message × Message → Message) (k : ℕ) → Message → Option (ℕ × Message)
layer outer value rest k m = option_and_then (λ p. option_map (λ v. (v, rest p)) (atom k (value p))) (of_kind outer operands m)

-- "[p, q, r] for the pair of p and the pair of q and r": p, and [q, r] is left
abbrev pub first : ℕ → Message → Option (ℕ × Message)
first = layer PAIR (λ p. p.0) (λ p. p.1)

-- "{m}k for m locked under k": k, and m is left
abbrev pub under : ℕ → Message → Option (ℕ × Message)
under = layer ENCRYPTED (λ p. p.1) (λ p. p.0)

-- what s reads of the message that a layer left
abbrev pub after : {A : Type 0} → (Message → Option A) → Option (ℕ × Message) → Option (ℕ × A)
after s None = None
after s (Some (v, x)) = option_map (λ w. (v, w)) (s x)

-- a layer, and then what is left
infixr 5 ◌▸◌
unfoldable pub ◌▸◌ : {A : Type 0} → (Message → Option (ℕ × Message)) → (Message → Option A) → Message → Option (ℕ × A)
◌▸◌ l s m = after s (l m)
