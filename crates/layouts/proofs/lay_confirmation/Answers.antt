-- `layouts::lay_confirmation` meets its contract: its nodes are those of the definition. Assumes nothing.
use Rattle.layouts.specs.Drafts.{confirmation_draft}
use Rattle.layouts.proofs.lay_confirmation.Goals as goal

pub returns : goal.returns
unfolding confirmation_draft
returns c = c.draft.ensures
