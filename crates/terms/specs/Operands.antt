-- A term by its operands: one value for a pair, one for an encryption, and one for every term that has none.
-- Assumes nothing.
use Rattle.std.specs.Prelude.{ℕ}
use Rattle.words.specs.declared.Term.{Term}
use Rattle.words.specs.declared.Term.TheVariants.{Principal, Time, Nonce, LongTermKey, SessionKey, Pair, Encrypted, Unknown}

abbrev pub by_operands {ℓ} : {A : Type ℓ} → A → (pair encrypted : ℕ → ℕ → A) → Term → A
by_operands other pair encrypted (Principal p) = other
by_operands other pair encrypted (Time t) = other
by_operands other pair encrypted (Nonce i) = other
by_operands other pair encrypted (LongTermKey p) = other
by_operands other pair encrypted (SessionKey i) = other
by_operands other pair encrypted (Pair l r) = pair l r
by_operands other pair encrypted (Encrypted b k) = encrypted b k
by_operands other pair encrypted Unknown = other
