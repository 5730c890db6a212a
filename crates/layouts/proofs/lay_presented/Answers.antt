-- `layouts::lay_presented` meets its contract: its nodes are those of the definition. Assumes nothing.
use Rattle.layouts.specs.Drafts.{presented_draft}
use Rattle.layouts.proofs.lay_presented.Goals as goal

pub returns : goal.returns
unfolding presented_draft
returns c = c.draft.ensures
