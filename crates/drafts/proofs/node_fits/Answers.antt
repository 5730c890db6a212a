-- `drafts::node_fits` meets its contract, case by case. Assumes nothing.
use borrow.Author.Tests.{lt-ltb, le-ltb}
use Rattle.drafts.proofs.node_fits.Goals as goal

pub returns-in-Principal : goal.returns-in-Principal
returns-in-Principal c = rw c.in-Principal.is

pub returns-in-Time : goal.returns-in-Time
returns-in-Time c = rw c.in-Time.is

pub returns-in-Nonce : goal.returns-in-Nonce
returns-in-Nonce c = rw c.in-Nonce.is

pub returns-in-Key : goal.returns-in-Key
returns-in-Key c = rw c.in-Key.is c.key_fits.ensures

pub returns-then-l-k : goal.returns-then-l-k
returns-then-l-k c = simp (c.in-Pair.is, lt-ltb _ _ c.if-l-k.true)

pub returns-else-l-k : goal.returns-else-l-k
returns-else-l-k c = simp (c.in-Pair.is, le-ltb _ _ c.if-l-k.false)

pub returns-then-body-k : goal.returns-then-body-k
returns-then-body-k c = simp (c.in-Encrypted.is, lt-ltb _ _ c.if-body-k.true) c.key_fits-then-body-k.ensures

pub returns-else-body-k : goal.returns-else-body-k
returns-else-body-k c = simp (c.in-Encrypted.is, le-ltb _ _ c.if-body-k.false)

pub returns-in-Stored : goal.returns-in-Stored
returns-in-Stored c = rw c.in-Stored.is
