-- Eight words of a longer list are a packed set of their own: three sets in one list are three parts of it.
-- Assumes nothing.
use Rattle.std.specs.Prelude.{take}
use mathlib.Core.List.{List}
use Prim.Native.Nat.{ℕ}
use Rattle.std.proofs.Math.ListN.{drop}

-- the eight words from a place on
unfoldable pub part : (at : ℕ) → List ℕ → List ℕ
part at ws = take 8 (drop at ws)
