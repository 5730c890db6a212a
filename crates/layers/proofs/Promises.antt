-- What the crate promises beside the contracts of its functions, which answer what `first` and `under` read of the term's message
-- (`Layers`), with a term for the message that is left (`Present`).
-- Assumes nothing.
use Rattle.std.specs.Prelude.{List, ◌≡◌, ℕ, ◌<◌}
use Rattle.std.proofs.Common.{subst}
use Rattle.drafts.specs.Writes.{Writes}
use Rattle.drafts.proofs.Writes.{table_writes}
use Rattle.terms.specs.Meaning.{message_at}
use Rattle.terms.specs.Message.{Message}
use Rattle.terms.specs.Valid.{Valid}
use Rattle.layers.specs.Present.{Present}

module _ {n : ℕ} {ts : List ℕ} {count : ℕ} (v : Valid n ts count) {i : ℕ} (h : i < count) where
  -- the calls may be asked of any term of a table that holds together
  pub present : Present ts i
  present = record { n = n; count = count; valid = v; below = h }

  -- what was read is in range
  pub in_range_lem : {m : Message} → message_at ts i ≡ m → Writes n m
  in_range_lem e = subst (Writes n) e (table_writes v.terms i h)
