-- `raw_records::refusal::check_records` meets its contract. Assumes nothing.
use mathlib.Core.Path.{◌≡◌}
use Rattle.raw_records.specs.Raw.{records_of}
use Rattle.raw_records.specs.Refusals.{records_refusal}
use Rattle.raw_records.proofs.Passing.{records_from}
use Rattle.raw_records.proofs.refusal.check_records.Given as goal

abbrev pub invariant-loop-i : goal.invariant-loop-i
invariant-loop-i l = records_refusal l.n (records_from l.words l.i) ≡ records_refusal l.n (records_of l.words)
