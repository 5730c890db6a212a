-- No more comparisons were made than the bytes that were passed, and no more of them failed. Each turn takes two lines of the list.
use Rattle.std.proofs.Common.{length, ◌-◌, ◌≤◌}
use Rattle.vectors.proofs.run.Given as goal

abbrev pub invariant-loop-at : goal.invariant-loop-at
invariant-loop-at g l = record {
  listed : l.listings.compared ≤ l.at;
  listed_unlike : l.listings.differ ≤ l.listings.compared;
  written : l.writings.compared ≤ l.at;
  written_unlike : l.writings.differ ≤ l.writings.compared;
}

abbrev pub decreases-loop-at : goal.decreases-loop-at
decreases-loop-at g l = length l.list - l.at
