-- Each read goes on from where the reads before it ended. The measure is the room that is left.
use Rattle.std.proofs.Common.{length, ◌-◌, slice_range}
use Rattle.std.specs.Io.KnownBytes.{Consumes}
use Rattle.input.specs.Reads.{Reads}
use Rattle.input.proofs.read_behind.Given as goal

abbrev pub invariant-loop-at : goal.invariant-loop-at
invariant-loop-at g l = record {
  reads : Reads l.initial.buffer l.fn.count l.buffer l.at;
  bytes : Consumes (g.R.Read.remaining l.initial.reader) (g.R.Read.remaining l.reader) (slice_range l.buffer l.fn.count l.at);
}

abbrev pub decreases-loop-at : goal.decreases-loop-at
decreases-loop-at g l = length l.initial.buffer - l.at
