-- Sending (document 01, "Steps": "'Sends' puts the term on the wire, a set of term numbers"). What a step sends is a list of
-- messages: their terms are entered one message after another, and where they do not all fit nothing changes.
-- Assumes nothing.
use Rattle.std.specs.Prelude.{◌≡◌, Option, Some, None, Bool, true, cond, ◌↔◌, ◌⊎◌, ℕ, ◌+◌, ◌<◌, ◌≤◌, leb, length, drop}
use mathlib.Core.List.{List, [], ◌∷◌, Memᴰ}
use Rattle.drafts.specs.declared.Node.{Node}
use Rattle.drafts.specs.Draft.{draft_fits}
use Rattle.drafts.specs.Writes.{Writes}
use Rattle.marks.specs.Marks.{Words, marked, with_mark}
use Rattle.terms.specs.Meaning.{message_at}
use Rattle.terms.specs.Message.{Message}
use Rattle.terms.specs.Number.{number_in, terms_of}
use Rattle.terms.specs.Rules.{Agree}
use Rattle.terms.specs.Valid.{Valid}
use Rattle.messages.specs.Entered.{entered}
use Rattle.messages.specs.Lent.{over}
use Rattle.messages.specs.Listed.{add_all}
use Rattle.messages.specs.Meanings.{meanings}
use Rattle.messages.specs.Standing.{Standing}
use Rattle.deduction.specs.Known.{Known}
use Rattle.messages.specs.Plan.{with_plan}
use Rattle.sending.specs.declared.Marks.{Marks}
use Rattle.sending.specs.declared.Prepared.{Prepared}

-- ---- what is sent

-- each message entered after the one before it
abbrev pub entered_all : List ℕ → List Message → List ℕ
entered_all xs [] = xs
entered_all xs (m ∷ ms) = entered_all (entered xs m) ms

-- the wire with the number that each message has among the terms xs
abbrev pub marked_all : (ws xs : List ℕ) → List Message → List ℕ
marked_all ws xs [] = ws
marked_all ws xs (m ∷ ms) = marked_all (with_mark ws (number_in xs m)) xs ms

-- ---- the call

-- What a call comes to: how many terms there are after it, or the refusal's number. Either has the term table and the wire after it.
pub data Sending : Type 0 where
  sent : (count : ℕ) (terms wire : List ℕ) → Sending
  refused : (number : ℕ) (terms wire : List ℕ) → Sending

-- "the new terms do not all fit": whether they do
abbrev pub fits_in : (ts : List ℕ) (count : ℕ) → List Message → Bool
fits_in ts count ms = leb (length (entered_all (terms_of ts count) ms)) 512

-- "When a step needs a message, its terms are added"; 20 if "the new terms do not all fit"
abbrev pub sending : (ts ws xs : List ℕ) → List Message → Sending
sending ts ws xs ms = cond (leb (length xs) 512) (sent (length xs) (over xs ts) (marked_all ws xs ms)) (refused 20 ts ws)

unfoldable pub send_of : (ts ws : List ℕ) (count : ℕ) → List Message → Sending
send_of ts ws count ms = sending ts ws (entered_all (terms_of ts count) ms) ms

-- ---- a plan

abbrev pub MarksFit : Option Marks → Type 0
MarksFit (Some m) = (m.first < 512) × (m.last < 512)
MarksFit None = Unit {0}

abbrev pub marked_by : Option Marks → List ℕ → List ℕ
marked_by (Some m) ws = with_mark (with_mark ws m.first) m.last
marked_by None ws = ws

-- what comes of writing the planned words, unless they are too many
abbrev pub comes : (ts ws : List ℕ) (count : ℕ) (words : List ℕ) → Prepared → Sending
comes ts ws count words r =
    let all = count + r.count in
    cond (leb all 512) (sent all (with_plan ts count words r.count) (marked_by r.marks ws)) (refused 20 ts ws)

-- a plan is for these messages: writing it is sending them
pub record PlanFor (ts : List ℕ) (count : ℕ) (ms : List Message) (words : List ℕ) (r : Prepared) : Type 0 where
  pub places : length words ≡ 32
  pub few : r.count ≤ 32
  pub marks : count + r.count ≤ 512 → MarksFit r.marks
  pub sends : (ws : List ℕ) → comes ts ws count words r ≡ send_of ts ws count ms

-- ---- what a call asks for

-- the table keeps the rules and the draft fits, whatever the realm: the call itself has no use for its size
pub record Plannable (ts : List ℕ) (count : ℕ) (draft : List Node) (first last : ℕ) : Type 0 where
  pub n : ℕ
  pub small : n ≤ 65536
  pub table : Valid n ts count
  pub fits : draft_fits n count draft ≡ true
  pub first_node : first < 16
  pub last_node : last < 16

-- the fields of every message are in range
abbrev pub AllWrites : ℕ → List Message → Type 0
AllWrites n [] = Unit {0}
AllWrites n (m ∷ ms) = Writes n m × AllWrites n ms

-- ---- what holds after it

-- the messages ms were sent over a table ts of `count` terms and a wire ws; ts', `count'` and ws' are what came of them
pub record SentIs (n : ℕ) (ts ws : List ℕ) (count : ℕ) (ms : List Message) (ts' ws' : List ℕ) (count' : ℕ) : Type 0 where
  -- the table keeps the rules
  pub valid : Valid n ts' count'
  -- older terms keep their numbers and their meaning, and places past the terms their values
  pub more : count ≤ count'
  pub older : Agree ts ts' count
  pub meaning : (i : ℕ) → i < count → message_at ts i ≡ message_at ts' i
  pub past : drop count' ts' ≡ drop count' ts
  -- the terms are those of before, and those of the messages
  pub added : meanings ts' count' ≡ add_all ms (meanings ts count)
  pub fits : length (add_all ms (meanings ts count)) ≤ 512
  -- each message has a number
  pub each : (m : Message) → Memᴰ m ms → Standing (terms_of ts' count') m (number_in (terms_of ts' count') m)
  -- the wire is a set of 8 words with no mark past the last term
  pub words : Words 8 ws'
  pub within : (i : ℕ) → marked ws' i ≡ true → i < count'
  -- on the wire is what was there before, and the messages
  pub wire : (m : Message) → Known ts' count' ws' m ↔ (Known ts count ws m ⊎ Memᴰ m ms)
