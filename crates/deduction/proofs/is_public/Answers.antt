-- `deduction::is_public` meets its contract, term by term. Assumes nothing.
use Rattle.std.proofs.Common.{⊎_elim}
use Rattle.deduction.proofs.is_public.Goals as goal

pub returns-in-Nonce : goal.returns-in-Nonce
returns-in-Nonce c = ⊎_elim (λ is. rw is) (λ is. rw is) c.in-Nonce.is

pub returns-in-LongTermKey : goal.returns-in-LongTermKey
returns-in-LongTermKey c = rw c.in-LongTermKey.is c.flagged.ensures
