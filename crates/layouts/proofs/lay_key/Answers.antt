-- `layouts::lay_key` meets its contract: its nodes are those of the definition. Assumes nothing.
use Rattle.layouts.specs.Drafts.{key_draft}
use Rattle.layouts.proofs.lay_key.Goals as goal

pub returns : goal.returns
unfolding key_draft
returns c = c.draft.ensures
