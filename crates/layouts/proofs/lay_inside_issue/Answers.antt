-- `layouts::lay_inside_issue` meets its contract: its nodes are those of the definition. Assumes nothing.
use Rattle.layouts.specs.Drafts.{inside_issue_draft}
use Rattle.layouts.proofs.lay_inside_issue.Goals as goal

pub returns : goal.returns
unfolding inside_issue_draft
returns c = c.draft.ensures
