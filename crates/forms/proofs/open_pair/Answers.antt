-- `forms::open_pair` meets its contract: the left half of a pair by the contract of its own call, the right half being X. Assumes nothing.
use Rattle.std.proofs.Common.{sym, ◌∙◌}
use Rattle.layers.proofs.Laws.Present.{fields_here, pair_operands, pair_here}
use Rattle.layers.proofs.Laws.Ways.{not_pair}
use Rattle.forms.proofs.GrantLaws.{of_pair}
use Rattle.forms.proofs.open_pair.Goals as goal

pub returns-in_default : goal.returns-in_default
returns-in_default c = rw (not_pair c.requires c.term_at.ensures c.in_default.not-Pair)

pub open_beside-requires : goal.open_beside-requires
open_beside-requires c = (pair_operands c.requires (sym c.in-Pair.is ∙ c.term_at.ensures)).0

pub returns : goal.returns
returns c =
    let e = sym c.in-Pair.is ∙ c.term_at.ensures in
    let p = c.requires in
    of_pair _ _ _ _ (pair_here p e) (fields_here p e).1 c.open_beside.result c.open_beside.ensures
