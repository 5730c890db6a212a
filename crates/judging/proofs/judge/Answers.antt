-- `judge` meets its contract: the buffer has room, and what `list` wrote into it is the listing.
use Rattle.std.proofs.Common.{ℕ, List, ap, ◌∙◌, arith}
use Rattle.std.proofs.Math.ListN.{replicate, length-replicate}
use Rattle.walkfile.proofs.Promises.{counts, start_is}
use Rattle.comparison.specs.Compare.{difference}
use Rattle.judging.proofs.Laws.{has_room}
use Rattle.judging.proofs.judge.Goals as goal

pub slice_bounds-out-end : goal.slice_bounds-out-end
slice_bounds-out-end c = (counts _ _ _ _ c.in-Some.ensures).0

pub slice_bounds-first_difference-end : goal.slice_bounds-first_difference-end
slice_bounds-first_difference-end c = (counts _ _ _ _ c.in-Some.ensures).1

pub returns-in-None : goal.returns-in-None
returns-in-None c =
    absurd (has_room _ (replicate 224758 0) _ (omega (arith, length-replicate {A = ℕ} 224758 0)) c.in-None.ensures)

pub returns-in-Some : goal.returns-in-Some
returns-in-Some c =
    c.first_difference.ensures ∙ ap (λ (xs : List ℕ). difference 1 xs c.args.stored.now) (start_is _ _ _ _ c.in-Some.ensures)
