-- `drafts::key_word` meets its contract, case by case. Assumes nothing.
use Rattle.drafts.proofs.key_word.Goals as goal

pub returns-in-LongTerm : goal.returns-in-LongTerm
returns-in-LongTerm c = rw c.in-LongTerm.is c.from.ensures

pub returns-in-Session : goal.returns-in-Session
returns-in-Session c = rw c.in-Session.is c.from-in-Session.ensures
