-- `layouts::draft` meets its contract: the nodes, and `Time(0)` behind them. Assumes nothing.
use Rattle.std.proofs.Common.{◌≡◌, ◌≤◌, ℕ, zero, suc, List, [], ◌∷◌, ◌++◌, length, drop, replicate, refl, ap, arith}
use Rattle.drafts.specs.declared.Node.{Node}
use Rattle.drafts.specs.declared.Node.TheVariants.{Time}
use Rattle.layouts.specs.Drafts.{places}
use Rattle.layouts.proofs.draft.Goals as goal

filled : (m : ℕ) (xs : List Node) → length xs ≤ m → xs ++ drop (length xs) (replicate m (Time 0)) ≡ places m xs
filled zero [] h = refl
filled zero (x ∷ xs) h = absurd (omega arith)
filled (suc m) [] h = ap (λ ys. Time 0 ∷ ys) (filled m [] (omega arith))
filled (suc m) (x ∷ xs) h = ap (λ ys. x ∷ ys) (filled m xs (omega (arith, h)))

pub returns : goal.returns
returns c = rw c.copy_from_slice.ensures.after (filled 16 c.args.nodes.now c.requires)
