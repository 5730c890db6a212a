-- `walkfile::walk_records` meets its contract. Assumes nothing.
use mathlib.Core.Path.{◌≡◌}
use Prim.Native.Nat.{◌-◌}
use lib.ListN.{length}
use Rattle.realm.specs.Tables.{tables}
use Rattle.conditions.specs.Conditions.{KeptBy}
use Rattle.walkfile.proofs.Walking.{BeforeRecord, record_lines}
use Rattle.walkfile.proofs.walk_records.Given as goal

abbrev pub invariant-loop-record : goal.invariant-loop-record
invariant-loop-record l =
    (length l.out ≡ length l.initial.out) × (length l.terms ≡ 512) × (length l.runs ≡ 448) × (length l.wire ≡ 8) × KeptBy l.realm l.terms l.known × BeforeRecord l.file l.initial.out l.initial.end (record_lines l.initial.realm l.mark l.file) l.out (tables l.realm l.terms l.runs l.wire l.cache) l.at l.number l.end

abbrev pub decreases-loop-record : goal.decreases-loop-record
decreases-loop-record l = length l.file - l.at
