-- What the crate promises beside the contracts of its functions, each proved in the files below. Reading order of the
-- definitions: Draft (the message of a node, which drafts fit, a node as adding needs it), then Writes (which messages have
-- their fields in range).
-- Assumes nothing.
use Rattle.std.specs.Prelude.{◌≡◌, true, List, ℕ, ◌<◌}
use Rattle.drafts.specs.declared.Node.{Node}
use Rattle.terms.specs.Meaning.{message_at}
use Rattle.terms.specs.Message.{Message}
use Rattle.terms.specs.Valid.{Valid}
use Rattle.drafts.specs.Draft.{node_message, node_at, draft_message, node_fits, draft_fits}
use Rattle.drafts.proofs.Draft.{fits_at, draft_at}
use Rattle.drafts.specs.Writes.{Writes}
use Rattle.drafts.proofs.Writes.{table_writes, draft_writes}

-- Each node of a draft that fits can stand where it does,
pub each_fits : (n count : ℕ) (draft : List Node) → draft_fits n count draft ≡ true → (k : ℕ) → k < 16 → node_fits n count k (node_at draft k) ≡ true
each_fits n count draft e k h = fits_at n count draft e k h

-- and its message is made of its operands' messages.
pub meaning : (stored : ℕ → Message) (n count : ℕ) (draft : List Node) → draft_fits n count draft ≡ true → (k : ℕ) → k < 16
    → draft_message stored draft k ≡ node_message stored (draft_message stored draft) (node_at draft k)
meaning stored n count draft e k h = draft_at stored n count draft e k h

-- A message of a table that holds together has its fields in range,
pub table_in_range : {n : ℕ} {ts : List ℕ} {count : ℕ} → Valid n ts count → (i : ℕ) → i < count → Writes n (message_at ts i)
table_in_range v i h = table_writes v.terms i h

-- and so has one of a draft that fits.
pub draft_in_range : {n : ℕ} {ts : List ℕ} {count : ℕ} → Valid n ts count → (draft : List Node) → draft_fits n count draft ≡ true → (k : ℕ) → k < 16
    → Writes n (draft_message (message_at ts) draft k)
draft_in_range v draft e k h = draft_writes v draft e k h
