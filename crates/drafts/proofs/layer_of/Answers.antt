-- `drafts::layer_of` meets its contract, case by case. Assumes nothing.
use mathlib.Core.Path.{ap}
use Rattle.drafts.specs.declared.Layer.TheVariants as layers
use Prim.Native.Nat.{ℕ}
use Rattle.drafts.proofs.layer_of.Goals as goal

pub returns-in-Principal : goal.returns-in-Principal
returns-in-Principal c = rw c.in-Principal.is (ap layers.Atom c.from.ensures)

pub returns-in-Time : goal.returns-in-Time
returns-in-Time c = rw c.in-Time.is (ap layers.Atom c.from-in-Time.ensures)

pub returns-in-Nonce : goal.returns-in-Nonce
returns-in-Nonce c = rw c.in-Nonce.is (ap layers.Atom c.from-in-Nonce.ensures)

pub returns-in-Key : goal.returns-in-Key
returns-in-Key c = rw c.in-Key.is (ap layers.Atom c.key_word.ensures)

pub returns-in-Pair : goal.returns-in-Pair
returns-in-Pair c = rw c.in-Pair.is

pub returns-in-Encrypted : goal.returns-in-Encrypted
returns-in-Encrypted c = rw c.in-Encrypted.is (ap (λ (w : ℕ). layers.Encrypted c.in-Encrypted.body w) c.key_word-in-Encrypted.ensures)

pub returns-in-Stored : goal.returns-in-Stored
returns-in-Stored c = rw c.in-Stored.is
