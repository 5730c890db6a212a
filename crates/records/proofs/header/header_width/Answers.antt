-- `records::header::header_width` meets its contract: by the row of the mark, or without one. Assumes nothing.
use mathlib.Core.Path.{sym, ap, ◌∙◌}
use Prim.Native.Nat.{ℕ, ◌+◌}
use Rattle.std.proofs.Common.{rules}
use Rattle.records.specs.Headers.{format_bytes, header_width}
use Rattle.records.proofs.Headers.{lives_near}
use Rattle.records.proofs.header.header_width.Goals as goal

pub overflow_add-result : goal.overflow_add-result
overflow_add-result c = let h = (lives_near c.in-Some.format.flags).1 in let e = c.lives_at.ensures in search rules

pub returns-in-Some : goal.returns-in-Some
unfolding header_width
returns-in-Some c =
    ap (λ (k : ℕ). k + 8) c.lives_at.ensures ∙ ap format_bytes (sym c.in-Some.is ∙ c.format_of.ensures)

pub returns-in-None : goal.returns-in-None
unfolding header_width
returns-in-None c = ap format_bytes (sym c.in-None.is ∙ c.format_of.ensures)
