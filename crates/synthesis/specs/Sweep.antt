-- One sweep over the known terms from the last to the first: known pairs, and known encryptions that can be opened, make
-- their parts known. A sweep that adds nothing shows that the set is saturated.
-- Assumes nothing.
use Rattle.std.proofs.Math.Bool.{cond}
use mathlib.Core.List.{List}
use Prim.Native.Nat.{ℕ, zero, suc}
use Rattle.marks.specs.Marks.{marked, with_mark}
use Rattle.words.specs.declared.Term.{Term}
use Rattle.terms.specs.Operands.{by_operands}
use Rattle.terms.specs.Rules.{term_at}
use Rattle.deduction.specs.Opens.{opens_of}

-- the set after a known term was looked at
abbrev pub parts_of : ℕ → List ℕ → List ℕ → Term → List ℕ
parts_of flags ts ws = by_operands ws (λ l r. with_mark (with_mark ws l) r) (λ b k. cond (opens_of flags ts ws k) (with_mark ws b) ws)

unfoldable pub visit_of : ℕ → List ℕ → List ℕ → ℕ → List ℕ
visit_of flags ts ws i = cond (marked ws i) (parts_of flags ts ws (term_at ts i)) ws

-- the terms below m, the last first
unfoldable pub sweep_of : ℕ → List ℕ → ℕ → List ℕ → List ℕ
sweep_of flags ts zero ws = ws
sweep_of flags ts (suc m) ws = sweep_of flags ts m (visit_of flags ts ws m)
