-- What the crate promises beside the contracts of its functions: what holds of the tables after messages were sent, which messages
-- can be sent, and where sending changes no term. `Send` has the definitions.
-- Assumes nothing.
use Rattle.std.specs.Prelude.{◌≡◌, true, List, [], ◌∷◌, ℕ, ◌<◌, ◌≤◌, length}
use Rattle.drafts.specs.Writes.{Writes}
use Rattle.marks.specs.Marks.{Words, marked, with_mark}
use Rattle.terms.specs.Meaning.{message_at}
use Rattle.terms.specs.Message.{Message}
use Rattle.terms.specs.Number.{terms_of}
use Rattle.terms.specs.Valid.{Valid}
use Rattle.messages.specs.Lent.{over}
use Rattle.messages.specs.Listed.{add_all}
use Rattle.messages.specs.Meanings.{meanings}
use Rattle.sending.specs.Send.{entered_all, marked_all, sent, refused, send_of, AllWrites, SentIs}
use Rattle.sending.proofs.Accepted.{sent_accepted, sent_fits, sent_full, send_nothing, send_standing, send_twice}
-- a plan for messages is too long exactly where 20 is given; otherwise writing it is sending them; and no message needs no plan
pub use Rattle.sending.proofs.Planned.{room_known, plan_sent, send_room, nothing_planned}

-- ---- what an outcome says

module _ (n : ℕ) (small : n ≤ 65536) {ts : List ℕ} {count : ℕ} (v : Valid n ts count) (ws : List ℕ) (ms : List Message) (writes : AllWrites n ms) where
  pub send_accepted : Words 8 ws → ((i : ℕ) → marked ws i ≡ true → i < count) → {ts' ws' : List ℕ} {count' : ℕ}
      → send_of ts ws count ms ≡ sent count' ts' ws' → SentIs n ts ws count ms ts' ws' count'
  send_accepted words within e = sent_accepted n small v ws ms writes words within e

  -- ---- messages are sent exactly where their terms all fit

  pub send_fits : length (add_all ms (meanings ts count)) ≤ 512
      → let xs = entered_all (terms_of ts count) ms in send_of ts ws count ms ≡ sent (length xs) (over xs ts) (marked_all ws xs ms)
  send_fits room = sent_fits n small v ws ms writes room

  pub send_refuses : 512 < length (add_all ms (meanings ts count)) → send_of ts ws count ms ≡ refused 20 ts ws
  send_refuses long = sent_full n small v ws ms writes long

-- ---- where no term changes

-- no message
pub send_none : (ts ws : List ℕ) (count : ℕ) → length ts ≡ 512 → count ≤ 512 → send_of ts ws count [] ≡ sent count ts ws
send_none ts ws count size room = send_nothing ts ws count size room

module _ {n : ℕ} {ts : List ℕ} {count : ℕ} (v : Valid n ts count) (ws : List ℕ) where
  -- a message that stands in the table
  pub send_present : (m : Message) (i : ℕ) → i < count → message_at ts i ≡ m → send_of ts ws count (m ∷ []) ≡ sent count ts (with_mark ws i)
  send_present m i h e = send_standing v ws m i h e

  -- a message sent twice is sent once
  pub send_once : n ≤ 65536 → (m : Message) → Writes n m → send_of ts ws count (m ∷ m ∷ []) ≡ send_of ts ws count (m ∷ [])
  send_once small m w = send_twice v ws small m w
