-- What follows from the definitions of the same name in specs/.
-- Assumes nothing.
use Rattle.std.specs.Prelude.{◌≡◌, refl, ℕ}
use Rattle.words.specs.declared.Term.{Term}
use Rattle.words.specs.declared.Term.TheVariants.{Principal, Time, Nonce, LongTermKey, SessionKey, Pair, Encrypted, Unknown}
use Rattle.terms.specs.Operands.{by_operands}

pub operands_elim {ℓ} : {A : Type ℓ} (P : A → Type 0) (other : A) (pair encrypted : ℕ → ℕ → A) (t : Term) → P other
    → ((l r : ℕ) → t ≡ Pair l r → P (pair l r)) → ((b k : ℕ) → t ≡ Encrypted b k → P (encrypted b k)) → P (by_operands other pair encrypted t)
operands_elim P other pair encrypted (Principal p) o f g = o
operands_elim P other pair encrypted (Time t) o f g = o
operands_elim P other pair encrypted (Nonce i) o f g = o
operands_elim P other pair encrypted (LongTermKey p) o f g = o
operands_elim P other pair encrypted (SessionKey i) o f g = o
operands_elim P other pair encrypted (Pair l r) o f g = f l r refl
operands_elim P other pair encrypted (Encrypted b k) o f g = g b k refl
operands_elim P other pair encrypted Unknown o f g = o
