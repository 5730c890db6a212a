-- The answer of `add_message`, and the table after it. A message is added entire or not at all: how many terms are new is
-- read off `entered`, which knows no limit, and 20 is given exactly where they do not all fit in 512.
-- Assumes nothing.
use Rattle.std.specs.Prelude.{◌&&◌, cond, Result, Ok, Err, ℕ, ltb, leb, length}
use mathlib.Core.List.{List, ◌++◌}
use Rattle.std.proofs.Math.ListN.{drop}
use Rattle.drafts.specs.declared.Node.{Node}
use Rattle.messages.specs.declared.lent.Stored.{Stored}
use Rattle.refusals.specs.declared.Refusal.{Refusal}
use Rattle.refusals.specs.Numbers.{number}
use Rattle.drafts.specs.Draft.{draft_message, draft_fits}
use Rattle.terms.specs.Meaning.{message_at}
use Rattle.terms.specs.Message.{Message}
use Rattle.terms.specs.Number.{number_in, terms_of}
use Rattle.terms.specs.Outcome.{TermOutcome, accept, refuse}
use Rattle.terms.specs.Valid.{holds}
use Rattle.messages.specs.Entered.{entered}

-- ---- definitions

-- what the code's answer comes to
abbrev pub store_outcome : Result Stored Refusal → (count : ℕ) → List ℕ → TermOutcome
store_outcome (Ok stored) count ts = accept stored.number stored.count ts
store_outcome (Err r) count ts = refuse (number r) count ts

-- a list of terms, with the places of ts past it
abbrev pub over : List ℕ → List ℕ → List ℕ
over xs ts = xs ++ drop (length xs) ts

-- the terms xs, m among them, laid over the table; 20 if "the new terms do not all fit"
abbrev pub laid : (xs : List ℕ) (m : Message) (count : ℕ) (ts : List ℕ) → TermOutcome
laid xs m count ts = cond (leb (length xs) 512) (accept (number_in xs m) (length xs) (over xs ts)) (refuse 20 count ts)

-- 10 for tables that do not hold together, 6 for a draft with a field out of range or a part that is not present, then 20
unfoldable pub add_message_of : (n : ℕ) (ts : List ℕ) (count : ℕ) (draft : List Node) (root : ℕ) → TermOutcome
add_message_of n ts count draft root =
    let m = draft_message (message_at ts) draft root in
    cond (holds n ts count)
    (cond (ltb root 16 && draft_fits n count draft) (laid (entered (terms_of ts count) m) m count ts) (refuse 6 count ts))
    (refuse 10 count ts)
