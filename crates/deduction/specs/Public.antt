-- What the intruder has without the wire: `Free` of a message, the test `public_of` of a term, and that they say the same.
-- Assumes nothing.
use Rattle.std.specs.Prelude.{Bool, true, false, ℕ, leb}
use Rattle.marks.specs.Marks.{is_set}
use Rattle.words.specs.declared.Term.{Term}
use Rattle.words.specs.declared.Term.TheVariants.{Principal, Time, Nonce, LongTermKey, SessionKey, Pair, Encrypted, Unknown}

-- the test of a term
abbrev pub public_of : ℕ → Term → Bool
public_of flags (Principal p) = true
public_of flags (Time t) = true
public_of flags (Nonce i) = leb 64 i
public_of flags (LongTermKey p) = is_set flags p
public_of flags (SessionKey i) = leb 64 i
public_of flags (Pair l r) = false
public_of flags (Encrypted b k) = false
public_of flags Unknown = false
