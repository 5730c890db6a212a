-- `records::field::begins_with` meets its contract: too short, or the mark compared. Assumes nothing.
use Rattle.std.specs.Prelude.{length}
use Rattle.std.proofs.Common.{◌∙◌}
use borrow.Author.Tests.{lt-leb}
use Rattle.records.proofs.Fields.{begins_not, begins_by}
use Rattle.records.proofs.field.begins_with.Goals as goal

pub returns-else-width-bytes : goal.returns-else-width-bytes
returns-else-width-bytes c = let a = c.args in lt-leb a.width (length a.bytes.now) c.if-width-bytes.false ∙ begins_not a.mark a.width a.bytes.now c.if-width-bytes.false

pub returns-then-width-bytes : goal.returns-then-width-bytes
returns-then-width-bytes c = let a = c.args in begins_by a.mark a.width a.bytes.now c.if-width-bytes.true c.u16_at.ensures
