-- `synthesis::knowledge::Knowledge::note` meets its contract: one mark, by the answer. Assumes nothing.
use mathlib.Core.Path.{refl}
use Rattle.synthesis.specs.Knowledge.{note_of}
use Rattle.synthesis.proofs.knowledge.Knowledge.note.Goals as goal

pub returns-then-ok : goal.returns-then-ok
unfolding note_of
returns-then-ok c = (refl, rw (c.if-ok.true, c.mark.ensures) refl)

pub returns-else-ok : goal.returns-else-ok
unfolding note_of
returns-else-ok c = (refl, rw (c.if-ok.false, c.mark-else-ok.ensures) refl)
