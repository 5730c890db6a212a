-- The recursive test: whether a term can be put together from a set of terms, by its operands.
-- Assumes nothing.
use Rattle.words.specs.declared.Term.{Term}
use Rattle.terms.specs.Operands.{by_operands}
use Rattle.std.specs.Prelude.{ℕ, Option, Some, None}

-- ---- definitions

-- a term's operands, if it has any
abbrev pub operands_of : Term → Option (ℕ × ℕ)
operands_of = by_operands None (λ l r. Some (l, r)) (λ b k. Some (b, k))
