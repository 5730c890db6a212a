-- `rewriting::reading::read_words` meets its contract: the words that were put, and those of the records still to be read, are the
-- file's. Assumes nothing.
use mathlib.Core.Path.{◌≡◌}
use Prim.Native.Nat.{◌-◌}
use lib.ListN.{length}
use Rattle.rewriting.proofs.Progress.{ReadProgress}
use Rattle.rewriting.proofs.reading.read_words.Given as goal

abbrev pub invariant-loop-record : goal.invariant-loop-record
invariant-loop-record l = (length l.words ≡ length l.initial.words) × ReadProgress l.from l.file l.initial.words l.words l.at l.end

abbrev pub decreases-loop-record : goal.decreases-loop-record
decreases-loop-record l = length l.file - l.at
