-- `layouts::lay_issue` meets its contract: its nodes are those of the definition. Assumes nothing.
use Rattle.layouts.specs.Drafts.{issue_draft}
use Rattle.layouts.proofs.lay_issue.Goals as goal

pub returns : goal.returns
unfolding issue_draft
returns c = c.draft.ensures
