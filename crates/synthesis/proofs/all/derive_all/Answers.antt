-- `synthesis::all::derive_all` meets its contract: what is found after the pass is the set. Assumes nothing.
use mathlib.Core.Path.{◌∙◌}
use Rattle.synthesis.proofs.AllLaws.{found_set}
use Rattle.synthesis.proofs.all.derive_all.Goals as goal

pub returns : goal.returns
returns c =
    let found = c.load.ensures in
    found.0
    ∙ found_set c.requires.0 c.restart.ensures.wire (record { len = c.requires.1; fit = λ k. (c.type_inv.wire k).fits }) found.1 c.compose_all.ensures
