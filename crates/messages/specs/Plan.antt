-- A plan: the words that adding puts behind the terms of a table, and the numbers of the draft's nodes looked at so far.
-- The terms that are known are those of the table and those planned; each step of the planning keeps the equation
-- between them and `entered`.
-- Assumes nothing.
use Rattle.std.specs.Prelude.{◌≡◌, true, get_or, drop, set, replicate}
use mathlib.Core.List.{List, [], ◌∷◌, ◌++◌}
use Prim.Native.Nat.{ℕ, zero, suc, ◌+◌, ◌*◌, ◌<◌, ◌≤◌}
use Rattle.std.proofs.Math.ListN.{length, take}
use Rattle.drafts.specs.declared.Node.{Node}
use Rattle.drafts.specs.Draft.{draft_message, draft_fits}
use Rattle.terms.specs.Meaning.{message_at}
use Rattle.terms.specs.Message.{Message}
use Rattle.terms.specs.Number.{place, number_in}
use Rattle.terms.specs.Valid.{Terms, Valid}
use Rattle.messages.specs.Entered.{with_word, entered}
use Rattle.messages.specs.Standing.{Standing}
use Rattle.messages.specs.declared.plan.Plan.{Plan}

-- ---- definitions

-- the words to put behind the terms, the first `count` of `words`; and for each node of the draft that has been looked
-- at, the number of its term and one, else 0
abbrev pub as_plan : (words : List ℕ) (count : ℕ) (numbers : List ℕ) → Plan
as_plan words count numbers = record { words = words; count = count; numbers = numbers }

-- nothing planned, and no node looked at
abbrev pub empty_plan : Plan
empty_plan = as_plan (replicate 32 0) 0 (replicate 16 0)

-- the terms of the table, and the words planned
abbrev pub joined : (ts : List ℕ) (count : ℕ) (words : List ℕ) (planned : ℕ) → List ℕ
joined ts count words planned = take count ts ++ take planned words

-- the terms that are known by a plan
abbrev pub known : List ℕ → ℕ → Plan → List ℕ
known ts count p = joined ts count p.words p.count

-- the message of node k, where a stored node is a term of the table
abbrev pub drafted : List ℕ → List Node → ℕ → Message
drafted ts draft = draft_message (message_at ts) draft

-- how many of the nodes have been looked at
unfoldable pub noted : List ℕ → ℕ
noted [] = 0
noted (zero ∷ vs) = noted vs
noted (suc v ∷ vs) = suc (noted vs)

-- what is noted of a node with message m: nothing, or a number that stands for it, and one
abbrev pub NoteIs : List ℕ → Message → ℕ → Type 0
NoteIs xs m zero = Unit {0}
NoteIs xs m (suc i) = Standing xs m i

-- a plan under way: the table holds together, the draft fits, the known terms keep the rules, there are 32 places for words
-- and 16 for notes, no more than two words are planned for a node, and the notes are true
pub record Ready (ts : List ℕ) (count : ℕ) (draft : List Node) (p : Plan) : Type 0 where
  pub n : ℕ
  pub small : n ≤ 65536
  pub table : Valid n ts count
  pub fits : draft_fits n count draft ≡ true
  pub terms : Terms n (known ts count p) (length (known ts count p))
  pub places : length p.words ≡ 32
  pub size : length p.numbers ≡ 16
  pub room : p.count ≤ 2 * noted p.numbers
  pub notes : (j : ℕ) → j < 16 → NoteIs (known ts count p) (drafted ts draft j) (get_or p.numbers j 0)

-- a word w was planned
pub record WordPlanned (ts : List ℕ) (count : ℕ) (words : List ℕ) (planned w number : ℕ) (words' : List ℕ) (planned' : ℕ) : Type 0 where
  pub terms : joined ts count words' planned' ≡ with_word (joined ts count words planned) w
  pub number_is : number ≡ place (joined ts count words' planned') w
  pub most : planned' ≤ planned + 1
  pub places : length words' ≡ length words

-- node k was planned; later nodes have not been looked at
pub record NodePlanned (ts : List ℕ) (count : ℕ) (draft : List Node) (k : ℕ) (p : Plan) (number : ℕ) (q : Plan) : Type 0 where
  pub again : Ready ts count draft q
  pub terms : known ts count q ≡ entered (known ts count p) (drafted ts draft k)
  pub number_is : number ≡ number_in (known ts count q) (drafted ts draft k)
  pub later : (j : ℕ) → k < j → get_or q.numbers j 0 ≡ get_or p.numbers j 0

-- the table with the planned words written
abbrev pub with_plan : (ts : List ℕ) (count : ℕ) (words : List ℕ) (planned : ℕ) → List ℕ
with_plan ts count words planned = joined ts count words planned ++ drop (count + planned) ts

-- the notes with the number of node k
abbrev pub note_in : List ℕ → (k number : ℕ) → List ℕ
note_in numbers k number = set numbers k (number + 1)
