-- `layouts::lay_request` meets its contract: its nodes are those of the definition. Assumes nothing.
use Rattle.layouts.specs.Drafts.{request_draft}
use Rattle.layouts.proofs.lay_request.Goals as goal

pub returns : goal.returns
unfolding request_draft
returns c = c.draft.ensures
