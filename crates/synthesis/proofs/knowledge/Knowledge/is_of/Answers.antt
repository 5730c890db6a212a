-- `synthesis::knowledge::Knowledge::is_of` meets its contract: the words are compared. Assumes nothing.
use Rattle.std.proofs.Common.{sym, ◌∙◌}
use Rattle.std.proofs.lemmas.Bool.Decides.{Decides-eqb}
use Rattle.std.proofs.lemmas.Slice.Eq.{slice_eq-Decides}
use Rattle.marks.specs.Parts.{part}
use Rattle.terms.proofs.Choice.{no_true}
use Rattle.synthesis.proofs.knowledge.Knowledge.is_of.Goals as goal

pub returns : goal.returns
unfolding part
returns c =
    let same = slice_eq-Decides Decides-eqb _ _ _ c.eq.ensures in
    record { yes = same.0; no = λ e p. no_true (sym e ∙ same.1 p) }
