-- What opening and splitting asks for, and that what it gives can be derived.
-- Assumes nothing.
use Rattle.std.specs.Prelude.{Bool, true, cond, List, ℕ}
use Rattle.marks.specs.Marks.{marked}
use Rattle.terms.specs.Rules.{term_at}
use Rattle.deduction.specs.Public.{public_of}

-- key k is known or public
abbrev pub opens_of : ℕ → List ℕ → List ℕ → ℕ → Bool
opens_of flags ts ws k = cond (marked ws k) true (public_of flags (term_at ts k))
