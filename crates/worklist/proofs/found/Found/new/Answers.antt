-- `worklist::found::Found::new` meets its contract. Assumes nothing.
use Rattle.worklist.proofs.FoundLaws.{blank_listed}
use Rattle.worklist.proofs.found.Found.new.Goals as goal

pub invariant_of-result : goal.invariant_of-result
invariant_of-result c = (blank_listed 0).room
